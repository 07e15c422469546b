-- Distances: 0 for node 0 and the parent's plus 1 for others, which is the length of the path to the node.
--     stored-measured     a node more keeps it
--     distance-low        it is at most the node's number
--     distance-length     with k nodes of fuel or more
use Prim.Native.Nat.{ℕ, zero, suc, ◌<◌, ◌≤◌}
use native.Mathlib.Omega.{arith}
use native.Mathlib.Nat.{not-suc-le-zero}
use mathlib.Core.Path.{◌≡◌, refl, sym, ap, ◌∙◌}
use mathlib.Core.List.{[], ◌∷◌}
use lib.ListN.{length, length-reverse, get_or-append}
use lib.Seq.{get_or_at}
use Rattle.search.specs.Search.{Origin, Root, From, Graph, stored, count, origin, distance, distance_by}
use Rattle.search.specs.Paths.{hop, back, path}
use Rattle.search.proofs.Grown.{len_more, more}

abbrev pub Measured : Graph → Type 0
Measured g = (length g.distances ≡ count g) × ((i : ℕ) → i < count g → distance g i ≡ distance_by g.distances (origin g i))

-- the parent comes before node n
abbrev pub Below : ℕ → Origin → Type 0
Below n Root = Unit {0}
Below n (From p j) = p < n

module _ (g : Graph) (m : Measured g) (older : (i : ℕ) → i < count g → Below i (origin g i)) where
  module _ (k j w : ℕ) (same : length g.origins ≡ count g) (here : k < count g) where
    abbrev one_more : Graph
    one_more = stored g (From k j) w

    kept : (i : ℕ) → i < count g → distance one_more i ≡ distance g i
    kept i b = get_or-append g.distances (suc (distance g k) ∷ []) 0 i (omega (arith, m.0))

    by-kept : (i : ℕ) → i < count g → (o : Origin) → Below i o → distance_by one_more.distances o ≡ distance_by g.distances o
    by-kept i b Root l = refl
    by-kept i b (From p q) l = ap suc (kept p (omega arith))

    pub stored-measured : Measured one_more
    stored-measured =
        let old : (i : ℕ) → i < count g → origin one_more i ≡ origin g i = λ i b. get_or-append g.origins (From k j ∷ []) Root i (omega arith) in
        let new : origin one_more (count g) ≡ From k j = get_or_at g.origins (From k j) [] Root (count g) same in (
          len_more g.distances (suc (distance g k)) ∙ rw m.0 (sym (len_more g.words w)),
          more (λ (i : ℕ). distance one_more i ≡ distance_by one_more.distances (origin one_more i)) g.words w
              (λ i b. kept i b ∙ m.1 i b ∙ rw (old i b) (sym (by-kept i b (origin g i) (older i b))))
              (get_or_at g.distances (suc (distance g k)) [] 0 (count g) m.0 ∙ rw new (ap suc (sym (kept k here)))),
        )

  low_below : (n k : ℕ) → k < n → k < count g → distance g k ≤ k
  low_below zero k l h = absurd (not-suc-le-zero l)
  low_below (suc n) k l h = by (origin g k) (older k h) (m.1 k h) (low_below n)
    where
      by : (o : Origin) → Below k o → distance g k ≡ distance_by g.distances o → ((i : ℕ) → i < n → i < count g → distance g i ≤ i) → distance g k ≤ k
      by Root b e before = omega (arith, e)
      by (From p j) b e before = omega (arith, e, before p (omega arith) (omega arith))

  pub distance-low : (k : ℕ) → k < count g → distance g k ≤ k
  distance-low k h = low_below (suc k) k (omega arith) h

  back-length : (f k : ℕ) → k ≤ f → k < count g → length (back g.origins f k) ≡ distance g k
  unfolding back
  back-length zero k le h = sym (m.1 k h ∙ root (origin g k) (older k h))
    where
      root : (o : Origin) → Below k o → distance_by g.distances o ≡ 0
      root Root b = refl
      root (From p j) b = absurd (omega arith)
  back-length (suc f) k le h = by (origin g k) (older k h) (back-length f) ∙ sym (m.1 k h)
    where
      by : (o : Origin) → Below k o → ((p : ℕ) → p ≤ f → p < count g → length (back g.origins f p) ≡ distance g p)
          → length (hop o (back g.origins f)) ≡ distance_by g.distances o
      by Root b ih = refl
      by (From p j) b ih = ap suc (ih p (omega arith) (omega arith))

  pub distance-length : (f k : ℕ) → k ≤ f → k < count g → length (path g.origins f k) ≡ distance g k
  distance-length f k le h = length-reverse (back g.origins f k) ∙ back-length f k le h
