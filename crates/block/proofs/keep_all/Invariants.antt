-- The first a actions are written.
use Rattle.block.specs.Blocks.{Rows}
use Rattle.block.proofs.keep_all.Given as goal

abbrev pub invariant-loop-a : goal.invariant-loop-a
invariant-loop-a l = Rows l.kept l.columns l.a l.table
