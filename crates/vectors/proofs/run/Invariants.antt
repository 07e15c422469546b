-- What is left gets shorter with each vector.
use Rattle.std.proofs.Common.{length, ◌≤◌}
use Rattle.vectors.proofs.run.Given as goal

abbrev pub invariant-loop-v : goal.invariant-loop-v
invariant-loop-v g l = length l.rest ≤ length l.words

abbrev pub decreases-loop-v : goal.decreases-loop-v
decreases-loop-v g l = length l.rest
