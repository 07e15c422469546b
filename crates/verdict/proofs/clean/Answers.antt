-- Too few nodes, and no bit says anything; or the block's two words.
use Rattle.verdict.proofs.Passing.{clean-block}
use Rattle.verdict.proofs.clean.Goals as goal

pub returns : goal.returns
returns c =
    let a = c.args in
    let cols = c.columns-columns.ensures in
    let sets = c.sets_from.ensures in
    clean-block a.k c.sets_from.result c.all_opposed-opposed.result c.all_keep.result sets (c.all_opposed-opposed.ensures _ sets.small cols) (c.all_keep.ensures _ _ _ (c.gather_block.ensures _ cols))
