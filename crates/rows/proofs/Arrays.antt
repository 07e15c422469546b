-- What `map` of an array gives, where each call of the closure leaves what it captured. Assumes nothing.
use mathlib.Core.Path.{◌≡◌, sym, subst, ◌∙◌}
use mathlib.Core.List.{List, [], ◌∷◌, map}
use Prim.Native.Nat.{ℕ, zero, suc, ◌+◌, ◌<◌, ◌≤◌}
use native.Mathlib.Omega.{arith}
use native.Mathlib.Decide.{ℕ_discrete}
use lib.ListN.{length, get_or, length-map}
use lib.Seq.{ext_get_or}
use Rattle.std.specs.Fn.{Mut, Called}
use Rattle.std.specs.Iterator.{CallableAtEachTurn}
use Rattle.std.specs.Array.{list_steps, MapsFrom, IsMapOf}
use Rattle.std.proofs.lemmas.Iterator.{YieldsList}
use Rattle.std.proofs.lemmas.Iterator.Adapters.{serves_from_places}
use Rattle.integers.proofs.Fill.{get_d_mapped, same_default}

-- the elements come from the list, one after another
road : {A : Type 0} (xs : List A) → YieldsList (list_steps {A = A}) (λ x. x) xs xs
road [] = record { runs = λ x j e. let z : ◌≡◌ {A = ℕ} 0 1 = cc in absurd (omega arith) }
road (x ∷ xs) = record { runs = (λ j e. let z : ◌≡◌ {A = ℕ} 0 1 = cc in absurd (omega arith), λ y j e. let f : y ≡ x = cc in let g : j ≡ xs = cc in (f, rw g (road xs).runs)) }

-- it may be called at each element
pub callable_at_items : {A P : Type 0} {R : P → A → P → Type 0} {Q : P → A → Type 0} {f : P} (xs : List A) (d : A) → ((x : A) (q : P) → R f x q → q ≡ f)
    → ((k : ℕ) → k < length xs → Q f (get_or xs k d)) → CallableAtEachTurn (list_steps {A = A}) R Q xs f
callable_at_items {A = A} {Q = Q} {f = f} xs d keeps may =
    serves_from_places (road xs) keeps (λ x k h e. subst (λ (y : A). Q f y) (sym (e ∙ same_default xs k x d h)) (may k h))

module _ {F A B : Type 0} (g : Mut F (A × Unit {0}) B) (f : F) (h : A → B) (xs : List A) (ys : List B) (d : A) where
  mapped_from : (n i : ℕ) → ((k : ℕ) → k < i + n → (r : B) (q : F) → Called g f (get_or xs k d, tt) r q → (q ≡ f) × (r ≡ h (get_or xs k d))) → MapsFrom g f xs ys i n
      → (k : ℕ) (e : B) → i ≤ k → k < i + n → get_or ys k e ≡ h (get_or xs k d)
  mapped_from zero i acts m k e l u = absurd (omega arith)
  mapped_from (suc n) i acts m k e l u =
      let (q, x, y, from, at, call, rest) = m in
      let (same, is) = acts i (omega arith) y q (subst (λ (z : A). Called g f (z, tt) y q) (sym (from.1 d)) call) in
      elim (ℕ_discrete k i) [
        | yes w ↦ rw w (at.1 e ∙ is)
        | no w ↦ mapped_from n (i + 1) (λ j b. acts j (omega arith)) (subst (λ (p : F). MapsFrom g p xs ys (i + 1) n) same rest) k e (omega (arith, w)) (omega arith)
      ]

  -- the array is the list of what the function gives of each element
  pub mapped : (n : ℕ) (e : B) → length xs ≡ n → ((k : ℕ) → k < n → (r : B) (q : F) → Called g f (get_or xs k d, tt) r q → (q ≡ f) × (r ≡ h (get_or xs k d))) → IsMapOf g f xs ys n
      → ys ≡ map h xs
  mapped n e l acts m =
      ext_get_or e ys (map h xs) (m.long ∙ sym (length-map xs h ∙ l))
      (λ k p. mapped_from n 0 (λ j b. acts j (omega arith)) m.each k e (omega arith) (omega (arith, m.long)) ∙ sym (get_d_mapped h xs k d e (omega (arith, m.long))))
