use mathlib.Core.Path.{◌≡◌, ap, ◌∙◌}
use native.Mathlib.Omega.{arith}
use borrow.Author.Rules.{rules}
use lib.ListN.{get_or}
use mir.Syntax.{w64}
use mir.Val.{SFits, to_z, of_z}
use mir.Facts.{to_z-of_z}
use Rattle.rows.specs.Rows.{row_value}
use Rattle.rows.specs.Bounds.{no_row}
use Rattle.runs.specs.Values.{where_failing}
use Rattle.runs.proofs.Guards.{below_fails, above_holds, failing-on, failing-stop, failing-end, where-fails}
use Rattle.runs.proofs.first_failing.Goals as goal
use Rattle.runs.proofs.first_failing.Goals.{After-value-value}

value-is : (c : After-value-value) → to_z w64 (of_z w64 c.value-value.result) ≡ row_value (get_or c.args.rows.now c.loop-k.k no_row) c.args.x
value-is c = let f : SFits w64 c.value-value.result = search rules in to_z-of_z f ∙ c.value-value.ensures

pub returns-then-value-lt0 : goal.returns-then-value-lt0
returns-then-value-lt0 c =
    let k = c.loop-k.k in
    let x = c.args.x in
    let e = value-is (goal.at.returns-then-value-lt0 c).After-value-value in
    let fails = below_fails (row_value (get_or c.args.rows.now k no_row) x) (rw e at c.if-value-lt0.true) in
    rw e (where-fails (failing-stop c.args.rows.now x k (search rules) c.loop-k.invariant fails) fails)

pub loop-k-preserved : goal.loop-k-preserved
loop-k-preserved c =
    let k = c.loop-k.k in
    let x = c.args.x in
    let on = above_holds (row_value (get_or c.args.rows.now k no_row) x) (rw (value-is (goal.at.loop-k-preserved c).After-value-value) at c.if-value-lt0.false) in
    failing-on c.args.rows.now x k (search rules) c.loop-k.invariant on

pub returns : goal.returns
returns c = ap where_failing (failing-end c.args.rows.now c.args.x c.loop-k.k (omega arith) c.loop-k.invariant)
