-- `Sum::add_rows` meets its contract. The invariant: the rows below the index are added.
use native.Mathlib.Omega.{arith}
use lib.ListN.{get_or}
use Rattle.rows.specs.Bounds.{no_row}
use Rattle.acceptance.proofs.Laws.{RowTurn, row-turn, added-all}
use Rattle.acceptance.proofs.Sum.add_rows.Goals as goal
use Rattle.acceptance.proofs.Sum.add_rows.Goals.{In-loop-r}

-- what holds of a turn
turn-of : (c : In-loop-r) → let a = c.args in
    RowTurn a.mults.now a.self a.rows.now c.loop-r.r-index c.loop-r.s (get_or a.rows.now c.loop-r.r-index no_row)
turn-of c =
    let a = c.args in
    row-turn a.mults.now a.self a.rows.now c.loop-r.r-index c.loop-r.s c.loop-r.invariant c.requires.by_index c.loop-r-test.true c.requires.room.0 c.requires.room.1

pub add_row-s-requires : goal.add_row-s-requires
add_row-s-requires c = (turn-of (goal.at.add_row-s-requires c).In-loop-r).asked

pub loop-r-preserved : goal.loop-r-preserved
loop-r-preserved c = rw c.add_row-s.ensures (turn-of (goal.at.loop-r-preserved c).In-loop-r).next

pub returns : goal.returns
returns c =
    let a = c.args in
    added-all a.mults.now a.self a.rows.now c.loop-r.r-index c.loop-r.s c.loop-r.invariant (omega arith) (omega arith) c.requires.room.0
