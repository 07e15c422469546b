use mathlib.Core.Path.{◌≡◌, ap, ◌∙◌}
use mathlib.Core.List.{List, ◌∷◌, ◌++◌}
use Prim.Native.Nat.{◌+◌}
use native.Mathlib.Numerals.{add-one}
use native.Mathlib.Omega.{arith}
use borrow.Author.Rules.{rules}
use lib.IntN.{ℤ, pos}
use lib.ListN.{length, take, drop, get_or}
use lib.Seq.{drop-cons}
use mir.Syntax.{w64}
use mir.Val.{SFits}
use mir.Facts.{to_z-of_z}
use Rattle.runs.proofs.Loops.{copied_next}
use Rattle.runs.proofs.write.Goals as goal

pub loop-v-preserved : goal.loop-v-preserved
loop-v-preserved c =
    let s = c.args.state.now in
    let x = c.args.x in
    let v = c.loop-v.v in
    let l : length x ≡ 8 = search rules in
    let f : SFits w64 (get_or x v (pos 0)) = search rules in
    let more : drop v s ≡ get_or s v (pos 0) ∷ drop (v + 1) s = rw (add-one v) (drop-cons s v (pos 0) (omega arith)) in
    rw (to_z-of_z f, to_z-of_z (c.requires.1 v (omega arith)))
    (copied_next c.loop-v.state (get_or s v (pos 0)) (drop (v + 1) s) v x (omega arith) (c.loop-v.invariant ∙ ap (λ (y : List ℤ). take v x ++ y) more))
