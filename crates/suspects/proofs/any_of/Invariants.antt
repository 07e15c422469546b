-- `Asking`; the set that is left falls.
use Rattle.suspects.proofs.Finding.{Asking}
use Rattle.suspects.proofs.any_of.Given as goal

abbrev pub invariant-loop-s : goal.invariant-loop-s
invariant-loop-s l = Asking l.columns l.set l.r l.s

abbrev pub decreases-loop-s : goal.decreases-loop-s
decreases-loop-s l = l.s
