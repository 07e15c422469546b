-- The first k pairs are done.
use Rattle.transpose.specs.Transposing.{Staged}
use Rattle.transpose.proofs.stage.Given as goal

abbrev pub invariant-loop-k : goal.invariant-loop-k
invariant-loop-k l = Staged 32 l.w l.m l.a l.k l.r
