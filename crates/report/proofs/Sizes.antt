-- How many bytes the parts of a line have, together.
use mathlib.Core.Path.{◌≡◌, ◌∙◌}
use mathlib.Core.Bool.{Bool}
use mathlib.Core.List.{List, ◌++◌}
use Prim.Native.Nat.{ℕ, ◌+◌}
use lib.ListN.{length, length-append}
use Rattle.lines.specs.Text.{text, field}
use Rattle.lines.proofs.Puts.{then_put, put-nothing}
use Rattle.report.specs.Report.{end_text, run_off_line, step_text, path_line}

pub length-run-off : (node action variable : ℕ) (high : Bool)
    → length (run_off_line node action variable high) ≡ length (field (text "RUNOFF node ") node) + length (field (text " action ") action) + length (field (text " variable ") variable) + length (end_text high)
unfolding run_off_line
length-run-off node action variable high =
    let a = field (text "RUNOFF node ") node in
    let b = field (text " action ") action in
    let c = field (text " variable ") variable in
    length-append (a ++ b ++ c) (end_text high) ∙ rw (length-append (a ++ b) c, length-append a b)

pub length-path : (js : List ℕ) → length (path_line js) ≡ 4 + length (step_text js) + 1
unfolding path_line
length-path js = length-append (text "PATH" ++ step_text js) (text "\n") ∙ rw (length-append (text "PATH") (step_text js))

-- what is written one behind the other
pub ruleset puts = (length-append, length-run-off, length-path, then_put, put-nothing)
