-- One turn of each loop over a state.
use mathlib.Core.Path.{◌≡◌, refl, sym, ap, ◌∙◌}
use mathlib.Core.Bool.{Bool, true, false, cond}
use mathlib.Core.List.{List, [], ◌∷◌, ◌++◌}
use Prim.Native.Nat.{ℕ, zero, suc, ◌+◌, ◌-◌, ◌<◌}
use native.Mathlib.Omega.{arith}
use native.Mathlib.Numerals.{add-one}
use lib.Dec.{ltb}
use lib.IntN.{ℤ, pos}
use lib.ListN.{length, get_or, set, take, drop, replicate}
use lib.Seq.{drop-cons, take-suc, set_at, length-take-le, append_snoc}
use borrow.Author.Tests.{lt-ltb}
use Rattle.std.specs.Prelude.{Some, None}
use Rattle.rows.specs.declared.Range.{Range}
use Rattle.rows.specs.Rows.{zero_range}
use Rattle.runs.specs.Runs.{on_range, lowest_off}
use Rattle.runs.specs.Values.{where_off}

-- ---- a list copied from the front over another
pub copied_next : (p : List ℤ) (y : ℤ) (ys : List ℤ) (v : ℕ) (s : List ℤ) → v < length s → p ≡ take v s ++ y ∷ ys → set p v (get_or s v (pos 0)) ≡ take (v + 1) s ++ ys
copied_next p y ys v s h e =
    ap (λ (l : List ℤ). set l v (get_or s v (pos 0))) e ∙ set_at (take v s) y ys (get_or s v (pos 0)) v (length-take-le v s (omega arith))
    ∙ rw (add-one v, take-suc s v (pos 0) h) (sym (append_snoc (take v s) (get_or s v (pos 0)) ys))

pub zeros_cons : (n v : ℕ) → v < n → replicate (n - v) (pos 0) ≡ pos 0 ∷ replicate (n - (v + 1)) (pos 0)
zeros_cons n v h = let e : n - v ≡ suc (n - (v + 1)) = omega arith in rw e refl

-- ---- the lowest value that is off its range
module _ (gs : List Range) (xs : List ℤ) (v : ℕ) (l : v < length gs) (m : v < length xs) where
  lowest-here : lowest_off (drop v gs) (drop v xs) ≡ cond (on_range (get_or gs v zero_range) (get_or xs v (pos 0))) (suc (lowest_off (drop (suc v) gs) (drop (suc v) xs))) 0
  unfolding lowest_off
  lowest-here = rw (drop-cons gs v zero_range l, drop-cons xs v (pos 0) m) refl

  pub lowest-on : v + lowest_off (drop v gs) (drop v xs) ≡ lowest_off gs xs → on_range (get_or gs v zero_range) (get_or xs v (pos 0)) ≡ true
      → (v + 1) + lowest_off (drop (v + 1) gs) (drop (v + 1) xs) ≡ lowest_off gs xs
  lowest-on e h = let f = rw h at lowest-here in rw (add-one v) (omega arith)

  pub lowest-stop : v + lowest_off (drop v gs) (drop v xs) ≡ lowest_off gs xs → on_range (get_or gs v zero_range) (get_or xs v (pos 0)) ≡ false → v ≡ lowest_off gs xs
  lowest-stop e h = let f = rw h at lowest-here in omega arith

-- a value off its range does not depend on what stands past the last range
pub lowest-front : (n : ℕ) (gs : List Range) (xs : List ℤ) → lowest_off (take n gs) (take n xs) ≡ lowest_off (take n gs) xs
unfolding lowest_off
lowest-front zero gs xs = refl
lowest-front (suc n) [] xs = refl
lowest-front (suc n) (g ∷ gs) [] = refl
lowest-front (suc n) (g ∷ gs) (x ∷ xs) = rw (lowest-front n gs xs) refl

-- one of n variables, or none
pub where-here : {n v : ℕ} → v < n → (w : ℕ) → v ≡ w → Some v ≡ where_off n w
where-here {n} {v} l w e = rw (← e, lt-ltb v n l) refl

pub where-some : (n v : ℕ) {w : ℕ} → where_off n v ≡ Some w → (v ≡ w) × (ltb v n ≡ true)
where-some n v {w} e = go (ltb v n) refl e
  where
    go : (b : Bool) → ltb v n ≡ b → cond b (Some v) None ≡ Some w → (v ≡ w) × (ltb v n ≡ true)
    go true h f = (cc f, h)
    go false h f = let z : ◌≡◌ {A = ℕ} 0 1 = cc f in absurd (omega arith)

pub where-none : (n v : ℕ) → where_off n v ≡ None → ltb v n ≡ false
where-none n v e = go (ltb v n) refl e
  where
    go : (b : Bool) → ltb v n ≡ b → cond b (Some v) None ≡ None → ltb v n ≡ false
    go true h f = let z : ◌≡◌ {A = ℕ} 0 1 = cc f in absurd (omega arith)
    go false h f = h
