use mathlib.Core.Bool.{true}
use Prim.Native.Nat.{◌+◌, ◌<◌}
use native.Mathlib.Omega.{arith}
use lib.ListN.{set}
use borrow.Author.Rules.{rules}
use Rattle.reader.proofs.Laws.{handed-back}
use Rattle.actions.proofs.SetsLoop.{SetsLoop, sets-refused, sets-turn, sets-ended}
use Rattle.actions.proofs.read_sets.Goals as goal
use Rattle.actions.proofs.read_sets.Goals.{In_ok-v}

turn-of : (c : In_ok-v) → let s = c.args in let l = c.loop in let x = c.in_ok-v.field-0-0 in
    (x.variable < 8) × SetsLoop s.words.now s.at s.n s.vars (set l.rows x.variable x.row) (set l.set x.variable true) (x.variable + 1) c.in_ok-v.next (l.counter + 1)
turn-of c =
    let l = c.loop.invariant in
    sets-turn _ _ _ _ l.0 l.1 (search rules) c.in_ok-v.ensures

pub returns-in_err-v : goal.returns-in_err-v
returns-in_err-v c =
    let l = c.loop.invariant in
    handed-back c.from_residual.result c.from_residual.ensures.1 (sets-refused _ _ _ _ l.0 l.1 (search rules) c.in_err-v.ensures)

pub offset_bounds-rows-v : goal.offset_bounds-rows-v
offset_bounds-rows-v c = let b = (turn-of (goal.at.offset_bounds-rows-v c).In_ok-v).0 in omega arith

pub bounds-rows-v : goal.bounds-rows-v
bounds-rows-v c = (turn-of (goal.at.bounds-rows-v c).In_ok-v).0

pub bounds-set-v : goal.bounds-set-v
bounds-set-v c = (turn-of (goal.at.bounds-set-v c).In_ok-v).0

pub overflow_add-low : goal.overflow_add-low
overflow_add-low c = let b = (turn-of (goal.at.overflow_add-low c).In_ok-v).0 in omega arith

pub loop-preserved : goal.loop-preserved
loop-preserved c = (c.loop.invariant.0, (turn-of (goal.at.loop-preserved c).In_ok-v).1)

pub returns : goal.returns
returns c = let l = c.loop.invariant in sets-ended _ _ _ _ l.0 l.1 (search rules)
