use mathlib.Core.List.{◌++◌}
use native.Mathlib.Omega.{arith}
use lib.ListN.{length-append}
use Rattle.lines.specs.Text.{text, field}
use Rattle.lines.proofs.Puts.{then_put}
use Rattle.report.specs.Report.{run_off_line}
use Rattle.report.proofs.Sizes.{length-run-off}
use Rattle.report.proofs.put_run_off.Goals as goal

pub returns : goal.returns
unfolding run_off_line
returns c =
    let a = c.args in
    let all = length-run-off a.node a.action a.variable a.high in
    let one = field (text "RUNOFF node ") a.node in
    let two = field (text " action ") a.action in
    let three = field (text " variable ") a.variable in
    let size = length-append one two in
    let more = length-append (one ++ two) three in
    then_put (then_put (then_put c.put_field-at.ensures c.put_field-next.ensures (omega arith)) c.put_field-last.ensures (omega arith)) c.put_end.ensures (omega arith)
