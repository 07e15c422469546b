-- What is left to ask, `Left`; the set that is left falls.
use native.Mathlib.Omega.{arith}
use mathlib.Core.Path.{◌≡◌}
use Rattle.block.proofs.Meeting.{left-all, left-next, left-none, word_below}
use Rattle.block.proofs.meet.Goals as goal

pub loop-s-init : goal.loop-s-init
loop-s-init c = left-all c.args.words.now c.args.at c.args.set (omega arith)

pub overflow_add-q : goal.overflow_add-q
overflow_add-q c = omega (arith, word_below c.loop-s.invariant (λ e. omega arith) c.requires)

pub offset_bounds-words-at : goal.offset_bounds-words-at
offset_bounds-words-at c = omega (arith, word_below c.loop-s.invariant (λ e. omega arith) c.requires)

pub bounds-words-at : goal.bounds-words-at
bounds-words-at c = omega (arith, word_below c.loop-s.invariant (λ e. omega arith) c.requires)

pub loop-s-preserved : goal.loop-s-preserved
loop-s-preserved c = left-next c.loop-s.invariant (λ e. omega arith)

pub returns : goal.returns
returns c =
    let l = c.loop-s in
    let done : l.s ≡ 0 = omega arith in
    left-none (rw done at l.invariant)
