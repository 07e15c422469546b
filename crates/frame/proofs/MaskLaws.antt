-- The test whether a row is clear of the variables that are marked: a coefficient that is zero, and one variable more, marked or not.
use mathlib.Core.Path.{◌≡◌, refl, sym, ◌∙◌}
use mathlib.Core.Bool.{Bool, true, false, ◌&&◌}
use mathlib.Core.List.{List}
use Prim.Native.Nat.{ℕ, suc, ◌+◌}
use native.Mathlib.Numerals.{add-one}
use native.Mathlib.Omega.{arith}
use lib.Dec.{eqb}
use lib.IntN.{ℤ, pos, negsuc, nat_abs}
use lib.ListN.{get_or}
use borrow.Author.Tests.{ne_eqb}
use mir.Syntax.{w64}
use mir.Val.{SFits, of_z}
use Rattle.frame.specs.Masks.{clear_below}

-- ---- a number is zero exactly if its bits are
pub zero_bits : (z : ℤ) → SFits w64 z → eqb (of_z w64 z) 0 ≡ eqb (nat_abs z) 0
zero_bits (pos n) f = refl
zero_bits (negsuc n) f = ne_eqb (of_z w64 (negsuc n)) 0 (λ e. omega (arith, f.sfits)) ∙ sym (ne_eqb (suc n) 0 (λ e. omega arith))

-- ---- the loop over the variables: coefficient v, where those below are clear or not
module _ (marks : List Bool) (coef : List ℤ) (v : ℕ) (b : Bool) (is : b ≡ clear_below marks coef v) where
  pub clear-left : get_or marks v false ≡ false → (b && true) ≡ clear_below marks coef (v + 1)
  unfolding clear_below
  clear-left m = rw (add-one v, m, is) refl

  pub clear-also : get_or marks v false ≡ true → (z : Bool) → z ≡ eqb (nat_abs (get_or coef v (pos 0))) 0 → (b && z) ≡ clear_below marks coef (v + 1)
  unfolding clear_below
  clear-also m z e = rw (add-one v, m, ← e, is) refl
