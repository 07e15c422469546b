use mathlib.Core.Path.{◌≡◌, refl, ◌∙◌}
use Prim.Native.Nat.{◌+◌, ◌-◌}
use native.Mathlib.Omega.{arith}
use borrow.Author.Rules.{rules}
use lib.IntN.{pos}
use lib.ListN.{get_or, replicate}
use mir.Syntax.{w32, w64}
use mir.Val.{SFits, to_z, of_z}
use mir.Facts.{to_z-of_z}
use Rattle.runs.proofs.Loops.{copied_next, zeros_cons}
use Rattle.runs.proofs.widened.Goals as goal

pub loop-v-preserved : goal.loop-v-preserved
loop-v-preserved c =
    let s = c.args.state.now in
    let v = c.loop-v.v in
    let f : SFits w64 c.from.result = search rules in
    let g : SFits w32 (get_or s v (pos 0)) = search rules in
    let e : to_z w64 (of_z w64 c.from.result) ≡ get_or s v (pos 0) = to_z-of_z f ∙ rw (to_z-of_z g) at c.from.ensures in
    rw e (copied_next c.loop-v.x (pos 0) (replicate (8 - (v + 1)) (pos 0)) v s (omega arith) (c.loop-v.invariant ∙ rw (zeros_cons 8 v (omega arith)) refl))
