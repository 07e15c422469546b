-- The first k pairs are done.
use Rattle.transpose.proofs.Stages.{staged_next}
use native.Mathlib.Omega.{arith}
use Rattle.transpose.proofs.stage.Goals as goal

pub loop-k-preserved : goal.loop-k-preserved
loop-k-preserved c = staged_next c.loop-k.k c.loop-k.invariant (omega arith)
