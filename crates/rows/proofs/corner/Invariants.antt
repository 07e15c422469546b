-- `rows::corner` meets its contract. The invariant: the first i ends are written.
use lib.ListN.{get_or}
use lib.IntN.{pos}
use Rattle.integers.proofs.Fill.{Filled}
use Rattle.rows.specs.Rows.{end_under, zero_range}
use Rattle.rows.proofs.corner.Given as goal

abbrev pub invariant-loop-i : goal.invariant-loop-i
invariant-loop-i l = Filled (λ k. end_under (get_or l.coef k (pos 0)) (get_or l.ranges k zero_range)) (pos 0) 8 l.out l.i
