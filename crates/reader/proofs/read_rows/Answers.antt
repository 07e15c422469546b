use lib.ListN.{drop}
use borrow.Author.Rules.{rules}
use Rattle.std.proofs.lemmas.List.{take-append-drop, set-append_left}
use Rattle.reader.specs.Results.{zero_rows}
use Rattle.reader.proofs.Laws.{handed-back}
use Rattle.reader.proofs.RowsLoop.{rows-begun, rows-refused, rows-turn, rows-ended}
use Rattle.reader.proofs.read_rows.Goals as goal

pub loop-slot-init : goal.loop-slot-init
loop-slot-init c =
    let s = c.args in
    (c.requires.0, c.requires.1, rw (take-append-drop s.n zero_rows) (rows-begun _ _ _ _ c.requires.0 c.requires.2))

pub returns-in_err-row : goal.returns-in_err-row
returns-in_err-row c =
    let l = c.loop-slot.invariant in
    handed-back c.from_residual.result c.from_residual.ensures.1 (rows-refused _ _ _ _ l.0 l.2 (search rules) c.in_err-row.ensures.0)

pub loop-slot-preserved : goal.loop-slot-preserved
loop-slot-preserved c =
    let l = c.loop-slot.invariant in
    let x = c.loop-slot in
    let next = rows-turn _ _ _ _ l.0 l.2 (search rules) c.in_ok-row.ensures.0 in
    (l.0, l.1, rw (← set-append_left x.slot-items (drop c.args.n zero_rows) x.slot-index c.in_ok-row.row (search rules)) next)

pub returns : goal.returns
returns c =
    let l = c.loop-slot.invariant in
    rows-ended _ _ _ _ l.0 l.2 (search rules)
