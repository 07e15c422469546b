use mathlib.Core.Path.{refl, sym, ap, ◌∙◌}
use mathlib.Core.Bool.{false}
use native.Mathlib.Omega.{arith}
use borrow.Author.Rules.{rules}
use lib.Dec.{eqb}
use lib.IntN.{ℤ, pos}
use lib.ListN.{length, get_or}
use mir.Syntax.{w64}
use mir.Val.{of_z}
use Rattle.std.proofs.lemmas.List.{length_push}
use Rattle.std.proofs.lemmas.Slice.Zip.{zip_turn}
use Rattle.integers.proofs.Laws.{within-fits}
use Rattle.frame.specs.Masks.{clear_below}
use Rattle.frame.proofs.MaskLaws.{clear-left, clear-also, zero_bits}
use Rattle.frame.proofs.is_clear.Goals as goal
use Rattle.frame.proofs.is_clear.Goals.{then-not-marked, else-not-marked}

pub loop-marked-init : goal.loop-marked-init
unfolding clear_below
loop-marked-init c = refl

pub loop-marked-preserved : goal.loop-marked-preserved
loop-marked-preserved c =
    let set = c.args.set in
    let coef = c.args.row.coef in
    let v = length c.loop-marked.yielded in
    let (l, m, a, b) = zip_turn set coef c.loop-marked.yielded c.into_iter-marked-iterator.result c.loop-marked.marked-iterator c.next.new.self c.next.result (search rules) (search rules) c.loop-marked.yielded_by (c.in-Some.marked, c.in-Some.c) c.in-Some.is c.next.ensures.steps in
    rw (length_push c.loop-marked.yielded (c.in-Some.marked, c.in-Some.c))
    (elim c.if-not-marked.branch [
      | then-not-marked w ↦ rw (w.clear-is, w.if-not-marked.true) (clear-left set coef v c.loop-marked.clear c.loop-marked.invariant (sym (a false) ∙ w.if-not-marked.true))
      | else-not-marked w ↦ rw w.clear-is (clear-also set coef v c.loop-marked.clear c.loop-marked.invariant (sym (a false) ∙ w.if-not-marked.false) _
          (ap (λ (z : ℤ). eqb (of_z w64 z) 0) (b (pos 0)) ∙ zero_bits (get_or coef v (pos 0)) (within-fits w64 (omega arith) (c.requires.coefs v))))
    ])
