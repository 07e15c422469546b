-- The first a actions are written.
use Rattle.block.proofs.Filling.{rows_next}
use Rattle.block.proofs.keep_all.Goals as goal

pub loop-a-preserved : goal.loop-a-preserved
loop-a-preserved c = let l = c.loop-a in rows_next l.a c.from.result l.invariant c.from.ensures c.keep.ensures
