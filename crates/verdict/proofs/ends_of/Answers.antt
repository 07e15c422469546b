-- What is asked for is the ends of the marked variables below v.
use mathlib.Core.Path.{◌≡◌, refl}
use native.Mathlib.Omega.{arith}
use Rattle.sets.specs.Sets.{pairs_to}
use Rattle.sets.proofs.Laws.{pair-more, pair_same}
use Rattle.gather.specs.Gathering.{place_of}
use Rattle.verdict.proofs.ends_of.Goals as goal
use Rattle.verdict.proofs.ends_of.Goals.{then-marked, else-marked}

pub loop-v-init : goal.loop-v-init
unfolding pairs_to
loop-v-init c = refl

pub loop-v-preserved : goal.loop-v-preserved
loop-v-preserved c =
    elim c.if-marked.branch [
      | then-marked w ↦ rw w.w-is (pair-more (place_of 3) (place_of 4) _ c.loop-v.v c.loop-v.w c.loop-v.invariant w.if-marked.true w.ask_ends-w.result w.ask_ends-w.ensures)
      | else-marked w ↦ rw w.w-is (pair_same (place_of 3) (place_of 4) _ c.loop-v.v c.loop-v.w c.loop-v.invariant w.if-marked.false)
    ]

pub returns : goal.returns
returns c =
    let all : c.loop-v.v ≡ 8 = omega arith in
    rw all at c.loop-v.invariant
