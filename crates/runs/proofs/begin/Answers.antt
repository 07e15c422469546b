use mathlib.Core.Path.{◌≡◌, refl, sym, ◌∙◌}
use Prim.Native.Nat.{◌≤◌}
use native.Mathlib.Omega.{arith}
use borrow.Author.Rules.{rules}
use borrow.Author.Tests.{ltb-true, ltb-false}
use lib.ListN.{length, take}
use lib.Seq.{length-take-le}
use Rattle.programs.specs.Calls.{action_part}
use Rattle.programs.proofs.Answers.{Found, found}
use Rattle.runs.specs.Runs.{lowest_off}
use Rattle.runs.specs.Values.{padded, where_off}
use Rattle.runs.proofs.Answers.{held, vars-few, begun-off, begun-there}
use Rattle.runs.proofs.Loops.{where-some, where-none}
use Rattle.runs.proofs.begin.Goals as goal
use Rattle.runs.proofs.begin.Goals.{Else-image-k, Else-n-image, After-lowest_off}

few-at : (c : Else-n-image) → length c.args.state.now ≤ 8
few-at c = omega (arith, vars-few c.args.words.now (held c.args.words.now {g = c.in_ok-image.image} c.in_ok-image.ensures) c.args.k c.args.state.now)

found_at : (c : Else-image-k) → let f = c.args in Found f.words.now f.k c.in_ok-image.image (action_part f.words.now f.k)
found_at c = found c.args.words.now c.args.k c.in_ok-image.ensures c.if-image-k.false

off-is : (c : After-lowest_off) → length c.args.state.now ≤ 8 → let g = c.in_ok-image.image in c.lowest_off.result ≡ where_off g.vars (lowest_off (take g.vars g.ranges) (padded c.args.state.now))
off-is c few =
    let gs = c.in_ok-image.image.ranges in
    let l : length gs ≡ 8 = search rules in
    let m = length-take-le (length c.args.state.now) gs (omega arith) in
    c.lowest_off.ensures ∙ rw (m, c.widened-old.ensures, c.if-n-image.false) refl

pub widened-old-requires : goal.widened-old-requires
widened-old-requires c = few-at (goal.at.widened-old-requires c).Else-n-image

pub returns-in-Some : goal.returns-in-Some
returns-in-Some c =
    let f = c.args in
    let g = c.in_ok-image.image in
    let v = lowest_off (take g.vars g.ranges) (padded f.state.now) in
    let e = off-is (goal.at.returns-in-Some c).After-lowest_off (few-at (goal.at.returns-in-Some c).Else-n-image) in
    let (same, off) = where-some g.vars v (sym e ∙ c.in-Some.is) in
    rw (← same) (begun-off f.words.now (held f.words.now {g = g} c.in_ok-image.ensures) f.k f.state.now c.if-image-k.false c.if-n-image.false refl (ltb-true v g.vars off))

pub offset_bounds-image-k : goal.offset_bounds-image-k
offset_bounds-image-k c = let f = found_at (goal.at.offset_bounds-image-k c).Else-image-k in omega (arith, f.small)

pub bounds-image-k : goal.bounds-image-k
bounds-image-k c = (found_at (goal.at.bounds-image-k c).Else-image-k).small

pub read_action-requires : goal.read_action-requires
read_action-requires c = (few-at (goal.at.read_action-requires c).Else-n-image, (found_at (goal.at.read_action-requires c).Else-image-k).begin)

pub unwrap-requires : goal.unwrap-requires
unwrap-requires c = rw (c.read_action.ensures, c.if-n-image.false) (found_at (goal.at.unwrap-requires c).Else-image-k).there

pub returns : goal.returns
returns c =
    let f = c.args in
    let g = c.in_ok-image.image in
    let v = lowest_off (take g.vars g.ranges) (padded f.state.now) in
    let e = off-is (goal.at.returns c).After-lowest_off (few-at (goal.at.returns c).Else-n-image) in
    let on = ltb-false v g.vars (where-none g.vars v (sym e ∙ c.in_default.is)) in
    rw c.widened-old.ensures (begun-there f.words.now (held f.words.now {g = g} c.in_ok-image.ensures) f.k f.state.now c.if-image-k.false c.if-n-image.false refl on (sym c.unwrap.ensures ∙ rw c.if-n-image.false at c.read_action.ensures))
