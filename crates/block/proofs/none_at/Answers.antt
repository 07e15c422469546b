-- The first p predicates are asked.
use native.Mathlib.Omega.{arith}
use mathlib.Core.Path.{◌≡◌}
use Rattle.block.proofs.Wording.{mixed_next, gone_made}
use Rattle.block.proofs.none_at.Goals as goal

pub loop-p-preserved : goal.loop-p-preserved
loop-p-preserved c = let l = c.loop-p in mixed_next l.p l.invariant

pub returns : goal.returns
returns c kept nodes es b =
    let l = c.loop-p in
    let done : l.p ≡ 14 = omega arith in
    gone_made c.args.j kept nodes es c.requires.0 b (rw done at l.invariant)
