-- What is left of the places from `place` on is left to be laid.
use mathlib.Core.Path.{sym, ap, ◌∙◌}
use mathlib.Core.Bool.{not}
use Prim.Native.Nat.{◌+◌, ◌-◌}
use native.Mathlib.Omega.{arith}
use Rattle.words.specs.LiteralSets.{has}
use Rattle.sheet.specs.Laying.{end_at, missed}
use Rattle.sheet.proofs.Laying.{none_left, passed, put_one, missed-at, missed-end}
use Rattle.sheet.proofs.lay_missed.Goals as goal
use Rattle.sheet.proofs.lay_missed.Goals.{then-has_place, else-has_place}

pub loop-place-preserved : goal.loop-place-preserved
loop-place-preserved c =
    let a = c.args in
    let q = c.loop-place.place in
    let here = rw (missed-at a.missing a.k a.j q (omega arith)) at c.loop-place.invariant.1 in
    let rest = missed a.missing a.k a.j (q + 1) (44 - (q + 1)) in
    let is = ap not c.has_place.ensures in
    elim c.if-has_place.branch [
      | then-has_place w ↦ rw (w.list-is, w.at-is, w.put.ensures)
          (omega arith, put_one (not (has q a.missing)) (end_at a.k a.j q) rest here (sym is ∙ ap not w.if-has_place.true) w.run_off_word.ensures)
      | else-has_place w ↦ rw (w.list-is, w.at-is) (omega arith, passed (not (has q a.missing)) (end_at a.k a.j q) rest here (sym is ∙ ap not w.if-has_place.false))
    ]

pub returns : goal.returns
returns c =
    let a = c.args in
    (omega arith, none_left (rw (missed-end a.missing a.k a.j c.loop-place.place (omega arith)) at c.loop-place.invariant.1))
