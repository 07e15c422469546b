use native.Mathlib.Omega.{arith}
use lib.ListN.{length-append}
use Rattle.verdict.specs.Verdicts.{steps_in}
use Rattle.lines.specs.Text.{text}
use Rattle.lines.proofs.Puts.{then_put}
use Rattle.report.specs.Report.{step_text, path_line}
use Rattle.report.proofs.Sizes.{length-path}
use Rattle.report.proofs.put_path.Goals as goal

pub returns : goal.returns
unfolding path_line
returns c =
    let a = c.args in
    let all = length-path (steps_in a.path.now) in
    let size = length-append (text "PATH") (step_text (steps_in a.path.now)) in
    then_put (then_put c.put_bytes-next.ensures c.put_steps-last.ensures (omega arith)) c.put_bytes.ensures (omega arith)
