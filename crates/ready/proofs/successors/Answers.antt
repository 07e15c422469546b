-- The first 2 * h actions are ready.
use native.Mathlib.Omega.{arith}
use mathlib.Core.Path.{◌≡◌, refl}
use Rattle.ready.proofs.Storing.{left-next, table-left, ready-next}
use Rattle.ready.proofs.successors.Goals as goal

pub loop-h-init : goal.loop-h-init
loop-h-init c =
    (record { long = refl; same = λ k l. refl }, λ kept nodes es b. record { long = refl; words = λ g i e l. absurd (omega (arith, l)); none = λ j l. absurd (omega (arith, l)) })

pub loop-h-preserved : goal.loop-h-preserved
loop-h-preserved c =
    let l = c.loop-h in
    let left = left-next l.invariant.0 c.store.ensures (omega arith) in (
      left,
      λ kept nodes es b.
          ready-next l.h (l.invariant.1 kept nodes es b) (omega arith) c.none_at.result c.none_at-in-loop-h.result (c.words_of-w.ensures kept nodes es (table-left l.invariant.0 b)) c.store.ensures
          (c.none_at.ensures kept nodes es (table-left left b)) (c.none_at-in-loop-h.ensures kept nodes es (table-left left b)),
    )

pub returns : goal.returns
returns c =
    let l = c.loop-h in
    let done : l.h ≡ 8 = omega arith in
    rw done at l.invariant.1
