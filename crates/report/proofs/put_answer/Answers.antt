use Rattle.std.proofs.Common.{◌≡◌, ◌≤◌, ◌++◌, length, Ok, ap, ◌∙◌, arith}
use lib.ListN.{length-append}
use Rattle.judge.specs.declared.Judged.TheVariants.{MayForbid, MayRunOff}
use Rattle.verdict.specs.Verdicts.{steps_in}
use Rattle.lines.proofs.Puts.{then_put}
use Rattle.report.specs.Report.{forbid_line, run_off_line, path_line, answer_lines}
use Rattle.report.proofs.put_answer.Goals as goal

pub returns-in-Ok-MayForbid : goal.returns-in-Ok-MayForbid
unfolding answer_lines
returns-in-Ok-MayForbid c =
    let v = c.in-Ok-MayForbid in
    let e : c.args.answer ≡ Ok (MayForbid v.node v.bad v.field-0-2 v.field-0-3) = v.is ∙ ap Ok (rw v.is at v.field-0-is) in
    let first = forbid_line v.node v.bad in
    let last = path_line (steps_in c.args.path.now) in
    let room : length (first ++ last) ≤ length c.args.out.now = rw e at c.requires in
    rw e (then_put {a = first} c.put_line-at.ensures c.put_path.ensures (omega (arith, length-append first last)))

pub returns-in-Ok-MayRunOff : goal.returns-in-Ok-MayRunOff
unfolding answer_lines
returns-in-Ok-MayRunOff c =
    let v = c.in-Ok-MayRunOff in
    let e : c.args.answer ≡ Ok (MayRunOff v.node v.action v.variable v.high v.field-0-4 v.field-0-5) = v.is ∙ ap Ok (rw v.is at v.field-0-is) in
    let first = run_off_line v.node v.action v.variable v.high in
    let last = path_line (steps_in c.args.path.now) in
    let room : length (first ++ last) ≤ length c.args.out.now = rw e at c.requires in
    rw e (then_put {a = first} c.put_run_off-at.ensures c.put_path-in-Ok-MayRunOff.ensures (omega (arith, length-append first last)))
