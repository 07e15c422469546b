-- `sums::add_scaled` meets its contract. The invariant: the first i coefficients are written.
use lib.ListN.{get_or}
use lib.IntN.{pos, ◌+ℤ◌, ◌*ℤ◌}
use Rattle.integers.proofs.Fill.{Filled}
use Rattle.sums.proofs.add_scaled.Given as goal

abbrev pub invariant-loop-i : goal.invariant-loop-i
invariant-loop-i l = Filled (λ j. get_or l.s.coef j (pos 0) +ℤ l.k *ℤ get_or l.r.coef j (pos 0)) (pos 0) 8 l.coef l.i
