use native.Mathlib.Omega.{arith}
use Rattle.reader.proofs.Laws.{handed-back}
use Rattle.reader.proofs.RowLoop.{row_near, row-turn, row-complete, row-refused, end-refused, end-complete}
use borrow.Author.Rules.{rules}
use Rattle.reader.proofs.read_row.Goals as goal

pub returns-in_err-answer : goal.returns-in_err-answer
returns-in_err-answer c =
    handed-back c.from_residual.result c.from_residual.ensures.1 (row-refused _ _ _ c.loop-w.invariant.1 _ _ (search rules) c.row_step-answer.ensures c.in_err-answer.was)

pub complete-requires : goal.complete-requires
complete-requires c =
    let room = c.requires.1 in
    omega (arith, row_near _ _ _ c.loop-w.invariant.1 _ _ _ c.row_step-answer.ensures, room)

pub returns-in-Complete : goal.returns-in-Complete
returns-in-Complete c = rw c.complete.ensures (row-complete _ _ _ c.loop-w.invariant.1 _ _ (search rules) c.row_step-answer.ensures (rw c.in-Complete.is at c.in_ok-answer.was))

pub loop-w-preserved : goal.loop-w-preserved
loop-w-preserved c =
    let t = c.loop-w.invariant in
    (t.0, row-turn _ _ _ t.1 _ _ (search rules) c.row_step-answer.ensures (rw c.in-GoOn.is at c.in_ok-answer.was))

pub returns-in_err-row_step : goal.returns-in_err-row_step
returns-in_err-row_step c =
    handed-back c.from_residual-in_err-row_step.result c.from_residual-in_err-row_step.ensures.1 (end-refused _ _ _ c.loop-w.invariant.1 _ _ (search rules) c.row_step.ensures c.in_err-row_step.was)

pub returns : goal.returns
returns c = rw c.complete-2.ensures (end-complete _ _ _ c.loop-w.invariant.1 _ _ (search rules) c.row_step.ensures c.in_ok-row_step.was)
