-- The first p places are written.
use Rattle.block.specs.Blocks.{Row}
use Rattle.block.proofs.keep.Given as goal

abbrev pub invariant-loop-p : goal.invariant-loop-p
invariant-loop-p l = Row l.initial.table l.at l.mask l.columns l.p l.table
