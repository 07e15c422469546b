-- What a caller of the exploration goes by: a node keeps its word, once over it stays over, and past the last node it stays as it is.
use Prim.Native.Nat.{ℕ, zero, suc, ◌<◌, ◌≤◌}
use native.Mathlib.Omega.{arith}
use mathlib.Core.Bool.{Bool, true, false}
use mathlib.Core.List.{[], ◌∷◌}
use mathlib.Core.Path.{◌≡◌, ap, ◌∙◌}
use mathlib.Core.Logic.{⊎_elim}
use borrow.Author.Tests.{le-ltb}
use lib.ListN.{length-append, get_or-append}
use lib.Dec.{ltb}
use Rattle.search.specs.Search.{Answer, To, None, Origin, From, Graph, Result, Done, Over, count, node_word, seek, placed, answered, acted, turns, node, visited, explored}
use Rattle.search.proofs.Count.{lt_or_le}

-- node k of a result has the word w
abbrev pub Keeps : ℕ → ℕ → Result → Type 0
Keeps k w (Done g) = (k < count g) × (node_word g k ≡ w)
Keeps k w Over = Unit {0}

module _ (next : ℕ → ℕ → Answer) (limit k w : ℕ) where
  placed-keeps : (t u : Bool) (g : Graph) (o : Origin) (v at : ℕ) → Keeps k w (Done g) → Keeps k w (placed t u g o v at)
  placed-keeps true u g o v at h = h
  placed-keeps false true g o v at h = (omega (arith, length-append g.words (v ∷ [])), get_or-append g.words (v ∷ []) 0 k h.0 ∙ h.1)
  placed-keeps false false g o v at h = tt

  answered-keeps : (g : Graph) (o : Origin) (x : Answer) → Keeps k w (Done g) → Keeps k w (answered limit g o x)
  answered-keeps g o (To v) h = placed-keeps (ltb (seek v g.words) (count g)) (ltb (count g) limit) g o v (seek v g.words) h
  answered-keeps g o None h = h

  acted-keeps : (r : Result) (i j : ℕ) → Keeps k w r → Keeps k w (acted next limit r i j)
  acted-keeps (Done g) i j h = answered-keeps g (From i j) (next (node_word g i) j) h
  acted-keeps Over i j h = tt

  pub turns_keeps : (g : Graph) (i j : ℕ) → Keeps k w (Done g) → Keeps k w (turns next limit g i j)
  unfolding turns
  turns_keeps g i zero h = h
  turns_keeps g i (suc j) h = acted-keeps (turns next limit g i j) i j (turns_keeps g i j h)

module _ (next : ℕ → ℕ → Answer) (limit : ℕ) where
  pub turns-over : (g : Graph) (k i j : ℕ) → i ≤ j → turns next limit g k i ≡ Over → turns next limit g k j ≡ Over
  unfolding turns
  turns-over g k i zero h e = let z : i ≡ 0 = omega arith in rw z at e
  turns-over g k i (suc j) h e =
      ⊎_elim (λ lt. let s : i ≡ suc j = omega arith in rw s at e) (λ le. ap (λ (r : Result). acted next limit r k j) (turns-over g k i j le e)) (lt_or_le j i)

module _ (next : ℕ → ℕ → Answer) (a limit : ℕ) (start : Answer) where
  pub visited-over : (i k : ℕ) → i ≤ k → visited next a limit start i ≡ Over → visited next a limit start k ≡ Over
  unfolding visited
  visited-over i zero h e = let z : i ≡ 0 = omega arith in rw z at e
  visited-over i (suc k) h e =
      ⊎_elim (λ lt. let s : i ≡ suc k = omega arith in rw s at e) (λ le. ap (λ (r : Result). node next a limit r k) (visited-over i k le e)) (lt_or_le k i)

  pub visited-settled : (g : Graph) (i k : ℕ) → i ≤ k → count g ≤ i → visited next a limit start i ≡ Done g → visited next a limit start k ≡ Done g
  unfolding visited
  visited-settled g i zero h b e = let z : i ≡ 0 = omega arith in rw z at e
  visited-settled g i (suc k) h b e =
      ⊎_elim (λ lt. let s : i ≡ suc k = omega arith in rw s at e)
      (λ le. ap (λ (r : Result). node next a limit r k) (visited-settled g i k le b e) ∙ rw (le-ltb k (count g) (omega arith))) (lt_or_le k i)

  -- the exploration is decided at any i at which it is over, or at which every node has had its turn
  pub explored-over : (i : ℕ) → i ≤ limit → visited next a limit start i ≡ Over → explored next a limit start ≡ Over
  unfolding explored
  explored-over i h e = visited-over i limit h e

  pub explored-done : (g : Graph) (i : ℕ) → i ≤ limit → count g ≤ i → visited next a limit start i ≡ Done g → explored next a limit start ≡ Done g
  unfolding explored
  explored-done g i h b e = visited-settled g i limit h b e
