-- The first i places.
use Rattle.verdict.specs.Working.{SetsFrom}
use Rattle.verdict.proofs.sets_from.Given as goal

abbrev pub invariant-loop-i : goal.invariant-loop-i
invariant-loop-i l = SetsFrom l.case l.k l.i l.set-items
