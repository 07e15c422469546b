-- Nodes are numbered in the order of finding: a later node's place is a later one, and every node's place has had its turn.
use Prim.Native.Nat.{ℕ, zero, suc, ◌+◌, ◌*◌, ◌<◌}
use native.Mathlib.Omega.{arith}
use native.Mathlib.Nat.{not-suc-le-zero}
use mathlib.Core.Path.{◌≡◌}
use mathlib.Core.List.{[], ◌∷◌, ◌++◌}
use lib.ListN.{length, get_or-append}
use lib.Seq.{get_or_at}
use Rattle.search.specs.Search.{Answer, Origin, Root, From, Graph, empty, stored, linked, count, origin}
use Rattle.search.proofs.Grown.{len_more, more}

module _ (a : ℕ) where
  abbrev pub Earlier : Origin → Origin → Type 0
  Earlier Root Root = ⊥
  Earlier Root (From r s) = Unit {0}
  Earlier (From p q) Root = ⊥
  Earlier (From p q) (From r s) = p * a + q < r * a + s

  -- the place is one of the first e
  abbrev Past : ℕ → Origin → Type 0
  Past e Root = Unit {0}
  Past e (From p q) = p * a + q < e

  pub record Numbered (g : Graph) : Type 0 where
    pub past : (i : ℕ) → i < count g → Past (length g.edges) (origin g i)
    pub later : (i k : ℕ) → i < k → k < count g → Earlier (origin g i) (origin g k)

  past_more : (e d : ℕ) (o : Origin) → e < d → Past e o → Past d o
  past_more e d Root h p = tt
  past_more e d (From q j) h p = omega arith

  past-earlier : (k j : ℕ) (o : Origin) → Past (k * a + j) o → Earlier o (From k j)
  past-earlier k j Root p = tt
  past-earlier k j (From q i) p = p

  pub empty-numbered : Numbered empty
  empty-numbered = record { past = λ i h. absurd (not-suc-le-zero h); later = λ i k l h. absurd (not-suc-le-zero h) }

  pub root-numbered : (w : ℕ) → Numbered (stored empty Root w)
  root-numbered w = record { past = past; later = λ i k l h. absurd (omega arith) }
    where
      past : (i : ℕ) → i < 1 → Past 0 (origin (stored empty Root w) i)
      past zero h = tt
      past (suc i) h = absurd (omega arith)

  pub linked-numbered : (g : Graph) (e : Answer) → Numbered g → Numbered (linked g e)
  linked-numbered g e n = record {
    past = λ i h. past_more (length g.edges) (length (g.edges ++ (e ∷ []))) (origin g i) (omega (arith, len_more g.edges e)) (n.past i h);
    later = n.later;
  }

  -- a node more, and the edge to it
  module _ (g : Graph) (k j w : ℕ) (e : Answer) (same : length g.origins ≡ count g) (wide : length g.edges ≡ k * a + j) (n : Numbered g) where
    abbrev with-node : Graph
    with-node = linked (stored g (From k j) w) e

    kept : (i : ℕ) → i < count g → origin with-node i ≡ origin g i
    kept i h = get_or-append g.origins (From k j ∷ []) Root i (omega arith)

    new : origin with-node (count g) ≡ From k j
    new = get_or_at g.origins (From k j) [] Root (count g) same

    pub new-numbered : Numbered with-node
    new-numbered = record {
      past =
          more (λ (i : ℕ). Past (length (g.edges ++ (e ∷ []))) (origin with-node i)) g.words w
          (λ i h. rw (kept i h) (past_more (length g.edges) (length (g.edges ++ (e ∷ []))) (origin g i) (omega (arith, len_more g.edges e)) (n.past i h)))
          (rw new (omega (arith, len_more g.edges e)));
      later = λ i m l h.
          more (λ (m : ℕ). (i : ℕ) → i < m → Earlier (origin with-node i) (origin with-node m)) g.words w
          (λ m h i l. rw (kept m h, kept i (omega arith)) (n.later i m l h))
          (λ i l. rw (new, kept i l) (past-earlier k j (origin g i) (rw wide at (n.past i l)))) m h i l;
    }
