-- The first p places of both actions are laid out.
use native.Mathlib.Omega.{arith}
use mathlib.Core.Path.{◌≡◌}
use Rattle.block.proofs.Wording.{laid_next, words-made}
use Rattle.block.proofs.words_of.Goals as goal

pub loop-p-preserved : goal.loop-p-preserved
loop-p-preserved c = let l = c.loop-p in laid_next l.p l.invariant (omega arith)

pub returns : goal.returns
returns c kept nodes es b =
    let l = c.loop-p in
    let done : l.p ≡ 28 = omega arith in
    words-made c.args.h kept nodes es c.requires.0 b (rw done at l.invariant) c.transpose.ensures
