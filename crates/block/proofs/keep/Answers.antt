-- The first p places are written.
use native.Mathlib.Omega.{arith}
use Rattle.block.proofs.Filling.{row_next}
use Rattle.block.proofs.keep.Goals as goal

pub loop-p-preserved : goal.loop-p-preserved
loop-p-preserved c = let l = c.loop-p in row_next l.p l.invariant (omega arith) c.chosen.result c.chosen.ensures
