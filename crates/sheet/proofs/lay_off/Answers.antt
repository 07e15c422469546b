-- What is left of the actions from j on is left to be laid.
use mathlib.Core.Path.{sym, ap, ◌∙◌}
use Rattle.std.specs.Option.{is_some}
use mathlib.Core.List.{◌++◌}
use Prim.Native.Nat.{◌+◌, ◌-◌}
use native.Mathlib.Omega.{arith}
use lib.ListN.{get_or}
use Rattle.gather.specs.Gathering.{missing}
use Rattle.sheet.specs.Laying.{missed, offs}
use Rattle.sheet.proofs.Laying.{Left, none_left, laid_on, offs-at, offs-end}
use Rattle.sheet.proofs.lay_off.Goals as goal
use Rattle.sheet.proofs.lay_off.Goals.{then-is_some, else-is_some}

pub loop-j-preserved : goal.loop-j-preserved
loop-j-preserved c =
    let a = c.args in
    let j = c.loop-j.j in
    let here = offs-at a.asked a.shown a.k a.actions j (omega arith) in
    let rest = offs a.asked a.shown a.k (j + 1) (a.actions - (j + 1)) in
    let missing-here = missing (get_or a.asked j 0) (get_or a.shown j 0) in
    let is = c.is_some.ensures ∙ ap is_some c.successor_of.ensures in
    elim c.if-is_some.branch [
      | then-is_some w ↦ let found = missed missing-here a.k j 28 16 in
          let all : Left _ _ _ _ _ (found ++ rest) = rw (here, sym is ∙ w.if-is_some.true) at c.loop-j.invariant.1 in
          rw (w.list-is, w.at-is) (omega (arith, w.lay_missed-at.ensures.0), laid_on found rest all (rw w.missing.ensures at w.lay_missed-at.ensures.1))
      | else-is_some w ↦ rw (w.list-is, w.at-is) (omega arith, rw (here, sym is ∙ w.if-is_some.false) at c.loop-j.invariant.1)
    ]

pub returns : goal.returns
returns c =
    let a = c.args in
    (omega arith, none_left (rw (offs-end a.asked a.shown a.k a.actions c.loop-j.j (omega arith)) at c.loop-j.invariant.1))
