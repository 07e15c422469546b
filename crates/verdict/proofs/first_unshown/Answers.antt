-- Nothing is found of the actions before j.
use mathlib.Core.Path.{refl, sym, ap, ◌∙◌}
use Rattle.std.specs.Option.{is_some}
use native.Mathlib.Nat.{sub-zero}
use native.Mathlib.Omega.{arith}
use Rattle.verdict.proofs.Ends.{off-skip, off-kept, off-here, off-end}
use Rattle.verdict.proofs.first_unshown.Goals as goal
use Rattle.verdict.proofs.first_unshown.Goals.{then-is_some+else-place-lt64, else-is_some}

pub loop-j-init : goal.loop-j-init
loop-j-init c = rw (sub-zero c.args.actions) refl

pub loop-j-preserved : goal.loop-j-preserved
loop-j-preserved c =
    let a = c.args in
    let is = c.is_some.ensures ∙ ap is_some c.successor_of.ensures in
    elim c.if-is_some.branch [
      | else-is_some w ↦ off-skip a.asked a.shown a.k a.actions c.loop-j.j c.loop-j.invariant (omega arith) (sym is ∙ w.if-is_some.false)
      | then-is_some+else-place-lt64 w ↦ off-kept a.asked a.shown a.k a.actions c.loop-j.j c.loop-j.invariant (omega arith) (sym is ∙ w.if-is_some.true) w.first_missing-place.result w.first_missing-place.ensures w.if-place-lt64.false
    ]

pub returns-then-place-lt64 : goal.returns-then-place-lt64
returns-then-place-lt64 c =
    let m = c.first_missing-place in
    let a = c.args in
    off-here a.asked a.shown a.k a.actions c.loop-j.j c.loop-j.invariant (omega arith) (sym (c.is_some.ensures ∙ ap is_some c.successor_of.ensures) ∙ c.if-is_some.true) m.result m.ensures c.if-place-lt64.true

pub returns : goal.returns
returns c =
    let a = c.args in
    off-end a.asked a.shown a.k a.actions c.loop-j.j c.loop-j.invariant (omega arith)
