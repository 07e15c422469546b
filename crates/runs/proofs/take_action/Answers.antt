use mathlib.Core.Path.{◌≡◌, refl, sym, ap, ◌∙◌}
use mathlib.Core.Bool.{true}
use mathlib.Core.List.{List, map}
use Prim.Native.Nat.{ℕ, ◌≤◌}
use native.Mathlib.Omega.{arith}
use borrow.Author.Rules.{rules}
use borrow.Author.Tests.{ltb-false}
use lib.IntN.{ℤ, pos}
use lib.ListN.{length, take}
use lib.Signed.{le_z}
use lib.Seq.{length-take-le}
use Rattle.std.specs.Prelude.{None, Ok}
use Rattle.rows.specs.Rows.{row_value}
use Rattle.runs.specs.declared.Begun.{Begun}
use Rattle.runs.specs.declared.Stepped.TheVariants.{RunsOff}
use Rattle.runs.specs.Runs.{lowest_off}
use Rattle.runs.specs.Values.{where_off, lacking}
use Rattle.runs.proofs.Guards.{none-failing}
use Rattle.runs.proofs.Loops.{lowest-front, where-some, where-none}
use Rattle.runs.proofs.Trying.{written-fits}
use Rattle.runs.proofs.take_action.Goals as goal
use Rattle.runs.proofs.take_action.Goals.{After-lowest_off}

-- the new values, and the lowest one that is off its range
abbrev new : Begun → List ℤ
new b = map (λ r. row_value r b.old) b.rows

abbrev off : Begun → List ℤ → ℕ
off b s = lowest_off (take (length s) b.ranges) (take (length s) (new b))

on-is : (c : After-lowest_off) → le_z (pos 0) (lacking c.args.b).value ≡ true
on-is c = none-failing (lacking c.args.b) (sym c.first_failing.ensures ∙ c.in_default.is)

off-is : (c : After-lowest_off) → c.lowest_off.result ≡ where_off (length c.args.state.now) (off c.args.b c.args.state.now)
off-is c =
    let b = c.args.b in
    let n = length c.args.state.now in
    let l : length b.ranges ≡ 8 = search rules in
    let m = length-take-le n b.ranges (omega (arith, c.requires.1)) in
    c.lowest_off.ensures ∙ rw (m, c.values-new.ensures, ← lowest-front n b.ranges (new b)) refl

pub returns-in-Some-lowest_off : goal.returns-in-Some-lowest_off
returns-in-Some-lowest_off c =
    let a = (goal.at.returns-in-Some-lowest_off c).After-lowest_off in
    let (e, h) = where-some (length c.args.state.now) (off c.args.b c.args.state.now) (sym (off-is a) ∙ c.in-Some-lowest_off.is) in
    rw (on-is a, h) (ap (λ (v : ℕ). Ok (RunsOff v)) (sym e), refl)

none-off : (c : After-lowest_off) → c.lowest_off.result ≡ None → length c.args.state.now ≤ off c.args.b c.args.state.now
none-off c e = ltb-false (off c.args.b c.args.state.now) (length c.args.state.now) (where-none (length c.args.state.now) (off c.args.b c.args.state.now) (sym (off-is c) ∙ e))

pub write-requires : goal.write-requires
write-requires c =
    let a = (goal.at.write-requires c).After-lowest_off in
    (c.requires.1, λ v h. rw c.values-new.ensures (written-fits c.args.b.ranges (new c.args.b) (length c.args.state.now) c.requires.0.ranges (none-off a c.in_default-lowest_off.is) v h))

pub returns : goal.returns
returns c =
    let a = (goal.at.returns c).After-lowest_off in
    let h = where-none (length c.args.state.now) (off c.args.b c.args.state.now) (sym (off-is a) ∙ c.in_default-lowest_off.is) in
    rw (on-is a, h) (refl, rw c.values-new.ensures at c.write.ensures)
