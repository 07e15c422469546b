use native.Mathlib.Omega.{arith}
use Rattle.lemmas.proofs.HeadLaws.{counting-next, counting-all}
use Rattle.lemmas.proofs.count_literals.Goals as goal

pub loop-i-preserved : goal.loop-i-preserved
loop-i-preserved c =
    rw (c.bit-in-loop-i.ensures.0, c.bit.ensures.0) (counting-next c.args.n c.args.set c.loop-i.invariant c.loop-i-test.true)

pub returns : goal.returns
returns c =
    (counting-all c.args.n c.args.set c.loop-i.invariant c.loop-i-test.false, omega (arith, c.loop-i.invariant.small, c.loop-i.invariant.few, c.requires))
