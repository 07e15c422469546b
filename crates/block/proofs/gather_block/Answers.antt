-- The table is that of the entries so far, for any nodes with these columns.
use native.Mathlib.Omega.{arith}
use Rattle.std.proofs.lemmas.List.{take_all}
use Rattle.block.proofs.Filling.{block_none, block-hit, block-miss}
use Rattle.block.proofs.gather_block.Goals as goal
use Rattle.block.proofs.gather_block.Goals.{then-entry-lt1024, else-entry-lt1024}

pub loop-entry-init : goal.loop-entry-init
loop-entry-init c nodes f = block_none c.args.kept.now nodes c.args.columns.now _ f c.keep_all.ensures

pub loop-entry-preserved : goal.loop-entry-preserved
loop-entry-preserved c nodes k =
    let l = c.loop-entry in
    let a = c.args in
    elim c.if-entry-lt1024.branch [
      | then-entry-lt1024 w ↦
          rw w.table-is (block-hit a.kept.now nodes a.entries.now l.entry-index (omega arith) (l.invariant nodes k) w.met.result (omega arith) (λ x h. w.met.ensures nodes x k h))
      | else-entry-lt1024 w ↦ rw w.table-is (block-miss a.kept.now nodes a.entries.now l.entry-index (omega arith) (l.invariant nodes k) (omega arith))
    ]

pub returns : goal.returns
returns c = let l = c.loop-entry in rw (take_all l.entry-index c.args.entries.now (omega arith)) at l.invariant
