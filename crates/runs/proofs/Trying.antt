-- Values on their ranges are small, and rows at a state with zeros behind it.
use mathlib.Core.Path.{◌≡◌, refl, ap}
use mathlib.Core.Bool.{Bool, true, false, cond}
use mathlib.Core.List.{List, [], ◌∷◌, ◌++◌}
use Prim.Native.Nat.{ℕ, zero, suc, ◌≤◌, ◌<◌}
use native.Mathlib.Omega.{arith}
use native.Mathlib.Nat.{not-suc-le-zero, le_of_suc-le-suc}
use lib.IntN.{ℤ, pos, ◌+ℤ◌, ◌*ℤ◌}
use lib.Signed.{le_z}
use lib.ListN.{length, get_or, take, replicate, length-take}
use lib.Seq.{get_or-take, length-take-le}
use mir.Syntax.{w32}
use mir.Val.{SFits}
use Rattle.integers.proofs.Int.{var, num, ◌⊕◌, ◌⊗◌, equal}
use Rattle.integers.proofs.Laws.{Within, within-fits, le_trans}
use Rattle.integers.proofs.Tests.{le_z_true, and-true}
use Rattle.rows.specs.declared.Row.{Row}
use Rattle.rows.specs.declared.Range.{Range}
use Rattle.rows.specs.Rows.{dot, row_value, zero_range}
use Rattle.rows.specs.Bounds.{max_state, SmallRange, SmallRanges}
use Rattle.runs.specs.Runs.{on_range, lowest_off}

-- ---- values on their ranges
pub first_on : (b : Bool) {n m : ℕ} → suc n ≤ cond b (suc m) 0 → (b ≡ true) × (n ≤ m)
first_on true h = (refl, le_of_suc-le-suc h)
first_on false h = absurd (not-suc-le-zero h)

pub on_range_lem : (gs : List Range) (xs : List ℤ) (v : ℕ) → length gs ≤ lowest_off gs xs → v < length gs → on_range (get_or gs v zero_range) (get_or xs v (pos 0)) ≡ true
unfolding lowest_off
on_range_lem [] xs v h l = absurd (not-suc-le-zero l)
on_range_lem (g ∷ gs) [] v h l = absurd (not-suc-le-zero h)
on_range_lem (g ∷ gs) (x ∷ xs) zero h l = (first_on (on_range g x) h).0
on_range_lem (g ∷ gs) (x ∷ xs) (suc v) h l = on_range_lem gs xs v (first_on (on_range g x) h).1 (le_of_suc-le-suc l)

pub lowest-most : (gs : List Range) (s : List ℤ) → lowest_off gs s ≤ length gs
unfolding lowest_off
lowest-most [] s = omega arith
lowest-most (g ∷ gs) [] = omega arith
lowest-most (g ∷ gs) (x ∷ s) = pick (on_range g x) (lowest-most gs s)
  where
    pick : (b : Bool) {n m : ℕ} → n ≤ m → cond b (suc n) 0 ≤ suc m
    pick true h = omega arith
    pick false h = omega arith

pub within-small : {g : Range} {x : ℤ} → SmallRange g → on_range g x ≡ true → Within max_state x
within-small {g} {x} s h =
    let (low, high) = and-true (le_z g.low x) (le_z x g.high) h in
    record { low = le_trans s.low.low (le_z_true g.low x low); high = le_trans (le_z_true x g.high high) s.high.high }

pub small-fits : {x : ℤ} → Within max_state x → SFits w32 x
small-fits h = within-fits w32 (omega arith) h

-- values that are written: the first n, each on its range
pub written-fits : (gs : List Range) (xs : List ℤ) (n : ℕ) → SmallRanges gs → n ≤ lowest_off (take n gs) (take n xs) → (v : ℕ) → v < n → SFits w32 (get_or xs v (pos 0))
written-fits gs xs n small h v m =
    let most = lowest-most (take n gs) (take n xs) in
    let len = length-take-le n gs (omega (arith, length-take n gs)) in
    let on = on_range_lem (take n gs) (take n xs) v (rw len h) (rw len m) in
    small-fits (within-small (small v) (rw (get_or-take n gs v zero_range m, get_or-take n xs v (pos 0) m) at on))

-- ---- a state with zeros behind it
dot-zeros : (cs : List ℤ) (n : ℕ) → dot cs (replicate n (pos 0)) ≡ pos 0
unfolding dot
dot-zeros [] n = refl
dot-zeros (c ∷ cs) zero = refl
dot-zeros (c ∷ cs) (suc n) = rw (dot-zeros cs n) (equal (var c ⊗ num 0 ⊕ num 0) (num 0) (omega arith))

dot-padded : (cs xs : List ℤ) (n : ℕ) → dot cs (xs ++ replicate n (pos 0)) ≡ dot cs xs
unfolding dot
dot-padded [] xs n = refl
dot-padded (c ∷ cs) [] n = dot-zeros (c ∷ cs) n
dot-padded (c ∷ cs) (x ∷ xs) n = ap (λ (z : ℤ). c *ℤ x +ℤ z) (dot-padded cs xs n)

pub value-padded : (r : Row) (xs : List ℤ) (n : ℕ) → row_value r (xs ++ replicate n (pos 0)) ≡ row_value r xs
value-padded r xs n = ap (λ (z : ℤ). z +ℤ r.constant) (dot-padded r.coef xs n)
