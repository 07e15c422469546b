-- What is left to ask, `Left`; the set that is left falls.
use Rattle.block.proofs.Meeting.{Left}
use Rattle.block.proofs.meet.Given as goal

abbrev pub invariant-loop-s : goal.invariant-loop-s
invariant-loop-s l = Left l.words l.at l.set l.q l.s

abbrev pub decreases-loop-s : goal.decreases-loop-s
decreases-loop-s l = l.s
