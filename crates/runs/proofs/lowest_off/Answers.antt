use mathlib.Core.Path.{◌≡◌, refl, sym, ◌∙◌}
use native.Mathlib.Omega.{arith}
use borrow.Author.Rules.{rules}
use lib.IntN.{pos}
use lib.ListN.{length, get_or}
use mir.Syntax.{w64}
use mir.Val.{SFits}
use mir.Facts.{to_z-of_z}
use Rattle.rows.specs.Rows.{zero_range}
use Rattle.runs.specs.Runs.{on_range}
use Rattle.runs.proofs.Loops.{lowest-on, lowest-stop, where-here}
use Rattle.runs.proofs.lowest_off.Goals as goal
use Rattle.runs.proofs.lowest_off.Goals.{After-on_range}

test-is : (c : After-on_range) → c.on_range.result ≡ on_range (get_or c.args.ranges.now c.loop-v.v zero_range) (get_or c.args.x c.loop-v.v (pos 0))
test-is c =
    let f : SFits w64 (get_or c.args.x c.loop-v.v (pos 0)) = search rules in
    c.on_range.ensures ∙ rw (to_z-of_z f) refl

pub returns-then-not-on_range : goal.returns-then-not-on_range
returns-then-not-on_range c =
    let l : length c.args.x ≡ 8 = search rules in
    where-here (search rules) _ (lowest-stop c.args.ranges.now c.args.x c.loop-v.v (search rules) (omega arith) c.loop-v.invariant (sym (test-is (goal.at.returns-then-not-on_range c).After-on_range) ∙ c.if-not-on_range.true))

pub loop-v-preserved : goal.loop-v-preserved
loop-v-preserved c =
    let l : length c.args.x ≡ 8 = search rules in
    lowest-on c.args.ranges.now c.args.x c.loop-v.v (search rules) (omega arith) c.loop-v.invariant (sym (test-is (goal.at.loop-v-preserved c).After-on_range) ∙ c.if-not-on_range.false)
