-- `Sum::add_premises` meets its contract. The invariant: the literals of the predicates below p are added.
use native.Mathlib.Omega.{arith}
use lib.ListN.{get_or}
use Rattle.rows.specs.Bounds.{no_row}
use Rattle.acceptance.proofs.Laws.{LiteralTurn, literal-turn, premised-all}
use Rattle.acceptance.proofs.Sum.add_premises.Goals as goal
use Rattle.acceptance.proofs.Sum.add_premises.Goals.{In-loop-p}

-- what holds of a turn
turn-of : (c : In-loop-p) → let a = c.args in
    LiteralTurn a.mults.now a.self a.preds.now a.set c.loop-p.p c.loop-p.s (get_or a.preds.now c.loop-p.p no_row)
turn-of c =
    let a = c.args in
    literal-turn a.mults.now a.self a.preds.now a.set c.loop-p.p c.loop-p.s c.loop-p.invariant c.requires.by_index c.loop-p-test.true c.requires.room.0 c.requires.room.1

pub add_if-s-requires : goal.add_if-s-requires
add_if-s-requires c = rw c.in_set.ensures (turn-of (goal.at.add_if-s-requires c).In-loop-p).first

pub add_if-s-requires-in-loop-p : goal.add_if-s-requires-in-loop-p
add_if-s-requires-in-loop-p c =
    let q = rw (← c.negate-q.ensures) at (turn-of (goal.at.add_if-s-requires-in-loop-p c).In-loop-p).second in
    rw (c.add_if-s.ensures, c.in_set.ensures, c.in_set-in-loop-p.ensures) q

pub loop-p-preserved : goal.loop-p-preserved
loop-p-preserved c =
    let q = rw (← c.negate-q.ensures) at (turn-of (goal.at.loop-p-preserved c).In-loop-p).next in
    rw (c.add_if-s-in-loop-p.ensures, c.in_set-in-loop-p.ensures, c.add_if-s.ensures, c.in_set.ensures) q

pub returns : goal.returns
returns c =
    let a = c.args in
    premised-all a.mults.now a.self a.preds.now a.set c.loop-p.p c.loop-p.s c.loop-p.invariant (omega arith) (omega arith) c.requires.room.0
