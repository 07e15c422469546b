use mathlib.Core.Path.{refl, sym, ◌∙◌}
use mathlib.Core.Bool.{Bool}
use borrow.Author.Rules.{rules}
use Prim.Native.Nat.{ℕ, ◌+◌}
use lib.ListN.{get_or}
use Rattle.rows.specs.Bounds.{no_row}
use Rattle.frame.specs.Masks.{clear_below}
use Rattle.sets.specs.Sets.{pairs_to}
use Rattle.sets.proofs.Laws.{pair-more, pair_same}
use Rattle.frame.proofs.mask_by.Goals as goal
use Rattle.frame.proofs.mask_by.Goals.{then-is_clear, else-is_clear}

pub loop-j-init : goal.loop-j-init
unfolding pairs_to
loop-j-init c = refl

pub loop-j-preserved : goal.loop-j-preserved
loop-j-preserved c =
    let a = c.args in
    let clear : ℕ → Bool = λ j. clear_below a.set (get_or a.predicates.now j no_row).coef 8 in
    let is = c.is_clear.ensures in
    elim c.if-is_clear.branch [
      | then-is_clear w ↦ rw w.mask-is (pair-more (λ j. j) (λ j. 14 + j) clear c.loop-j.j c.loop-j.mask c.loop-j.invariant (sym is ∙ w.if-is_clear.true) _ (search rules))
      | else-is_clear w ↦ rw w.mask-is (pair_same (λ j. j) (λ j. 14 + j) clear c.loop-j.j c.loop-j.mask c.loop-j.invariant (sym is ∙ w.if-is_clear.false))
    ]
