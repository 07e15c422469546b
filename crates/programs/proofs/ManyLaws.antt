-- Items as long as the next word is of a kind, one at a time.
use mathlib.Core.Path.{◌≡◌, refl, sym, ap, ◌∙◌}
use mathlib.Core.Bool.{Bool, true, false}
use mathlib.Core.List.{List, [], ◌∷◌}
use Prim.Native.Nat.{ℕ, zero, suc, ◌+◌, ◌-◌, ◌≤◌, ◌<◌}
use native.Mathlib.Omega.{arith}
use native.Mathlib.Nat.{sub-zero}
use lib.Dec.{ltb}
use lib.ListN.{length, drop}
use borrow.Author.Tests.{ltb-true, ltb-false}
use Rattle.words.specs.declared.Refusal.{Refusal}
use Rattle.grammar.specs.Reading.{Read, Reader, got, refused, pure, after, begins, many}

abbrev more : ℕ → Bool
more zero = false
more (suc m) = true

has_room : (n k : ℕ) (b : Bool) → ltb k n ≡ b → b ≡ more (n - k)
has_room n k true e = let l = ltb-true k n e in let one : n - k ≡ suc (n - suc k) = omega arith in rw one refl
has_room n k false e = let l = ltb-false k n e in let none : n - k ≡ 0 = omega arith in rw none refl

module _ {A : Type 0} (kind : ℕ) (item : Bool → Reader A) (ws : List ℕ) (i : ℕ) where
  pub many-none : (n : ℕ) → begins kind ws ≡ false → many kind item n ws i ≡ got [] ws i
  unfolding many
  many-none zero h = rw h refl
  many-none (suc n) h = rw h refl

  refused-next : (m : ℕ) {r : Refusal} → begins kind ws ≡ true → item (more m) ws i ≡ refused r → many kind item m ws i ≡ refused r
  unfolding many
  refused-next zero h e = rw (h, e) refl
  refused-next (suc m) h e = rw (h, e) refl

  -- k items are read of at most n
  pub many-refused : (n k : ℕ) {r : Refusal} → begins kind ws ≡ true → item (ltb k n) ws i ≡ refused r → many kind item (n - k) ws i ≡ refused r
  many-refused n k h e = refused-next (n - k) h (rw (has_room n k (ltb k n) refl) at e)

  pub many_more : (n k : ℕ) {x : A} {us : List ℕ} {j : ℕ} → begins kind ws ≡ true → k < n → item true ws i ≡ got x us j
      → many kind item (n - k) ws i ≡ after (many kind item (n - (k + 1)) us j) (λ xs. pure (x ∷ xs))
  unfolding many
  many_more n k h l e =
      let one : n - k ≡ suc (n - (k + 1)) = omega arith in
      rw (one, h, e) refl

  -- an item that was taken was within the limit
  pub within-limit : (n k : ℕ) {x : A} {us : List ℕ} {j : ℕ} → ((vs : List ℕ) (l : ℕ) (a : A) (us' : List ℕ) (j' : ℕ) → item false vs l ≡ got a us' j' → ⊥)
      → item (ltb k n) ws i ≡ got x us j → (k < n) × (item true ws i ≡ got x us j)
  within-limit n k {x} {us} {j} full e = go (ltb k n) refl e
    where
      go : (b : Bool) → ltb k n ≡ b → item b ws i ≡ got x us j → (k < n) × (item true ws i ≡ got x us j)
      go true p q = (ltb-true k n p, q)
      go false p q = absurd (full ws i x us j q)

-- ---- the loop that reads the items and stores something of each
-- `store s k i m`: the answer, with k items stored in s, of what is read from index i on
module _ {A S X : Type 0} (kind : ℕ) (item : Bool → Reader A) (most : ℕ) (store : S → ℕ → ℕ → Read (List A) → X) (ws : List ℕ) (at : ℕ) (s₀ : S) where
  abbrev answer : X
  answer = store s₀ 0 at (many kind item most (drop at ws) at)

  pub record Loop (s : S) (i k : ℕ) : Type 0 where
    pub few : k ≤ most
    pub here : i ≤ length ws
    pub same : store s k i (many kind item (most - k) (drop i ws) i) ≡ answer

  pub begun : at ≤ length ws → Loop s₀ at 0
  begun h = record { few = omega arith; here = h; same = rw (sub-zero most) refl }

  module _ {s : S} {i k : ℕ} (t : Loop s i k) where
    pub stopped : {r : Refusal} → begins kind (drop i ws) ≡ true → item (ltb k most) (drop i ws) i ≡ refused r → store s k i (refused r) ≡ answer
    stopped h e = ap (store s k i) (sym (many-refused kind item (drop i ws) i most k h e)) ∙ t.same

    pub ended : begins kind (drop i ws) ≡ false → store s k i (got [] (drop i ws) i) ≡ answer
    ended h = ap (store s k i) (sym (many-none kind item (drop i ws) i (most - k) h)) ∙ t.same

    pub turned : {x : A} {j : ℕ} {s' : S} → begins kind (drop i ws) ≡ true → k < most → item true (drop i ws) i ≡ got x (drop j ws) j → j ≤ length ws
        → ((m : Read (List A)) → store s k i (after m (λ xs. pure (x ∷ xs))) ≡ store s' (k + 1) j m) → Loop s' j (k + 1)
    turned {x} {j} {s'} h l e w law =
        record {
          few = omega arith;
          here = w;
          same = sym (law (many kind item (most - (k + 1)) (drop j ws) j)) ∙ ap (store s k i) (sym (many_more kind item (drop i ws) i most k h l e)) ∙ t.same;
        }
