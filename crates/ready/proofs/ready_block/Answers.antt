-- Columns, table, successors.

use Rattle.ready.proofs.ready_block.Goals as goal

pub returns : goal.returns
returns c =
    c.successors.ensures _ _ _ (c.gather_block.ensures _ c.columns-columns.ensures)
