-- What is left of the combinations from b on is left to be laid.
use mathlib.Core.Path.{sym, ◌∙◌}
use Prim.Native.Nat.{◌+◌}
use native.Mathlib.Omega.{arith}
use lib.ListN.{drop, get_or}
use Rattle.words.specs.Words.{no_literals}
use Rattle.sets.specs.Sets.{clashes}
use Rattle.verdict.specs.declared.Finding.TheVariants.{Forbid}
use Rattle.sheet.specs.Laying.{free}
use Rattle.sheet.proofs.Laying.{none_left, passed, put_one, free-at, free-end}
use Rattle.sheet.proofs.lay_free.Goals as goal
use Rattle.sheet.proofs.lay_free.Goals.{then-not-is_opposed, else-not-is_opposed}

pub loop-b-preserved : goal.loop-b-preserved
loop-b-preserved c =
    let a = c.args in
    let b = c.loop-b.b in
    let cs = a.combinations.now in
    let here = rw (free-at a.set a.k cs b (omega arith)) at c.loop-b.invariant.1 in
    let clash = clashes (get_or cs b no_literals).0 a.set in
    let rest = free a.set a.k (b + 1) (drop (b + 1) cs) in
    let is = c.is_opposed.ensures in
    elim c.if-not-is_opposed.branch [
      | then-not-is_opposed w ↦ rw (w.list-is, w.at-is, w.put.ensures) (omega arith, put_one clash (Forbid a.k b) rest here (sym is ∙ w.if-not-is_opposed.true) w.forbid_word.ensures)
      | else-not-is_opposed w ↦ rw (w.list-is, w.at-is) (omega arith, passed clash (Forbid a.k b) rest here (sym is ∙ w.if-not-is_opposed.false))
    ]

pub returns : goal.returns
returns c =
    let a = c.args in
    (omega arith, none_left (rw (free-end a.set a.k a.combinations.now c.loop-b.b (omega arith)) at c.loop-b.invariant.1))
