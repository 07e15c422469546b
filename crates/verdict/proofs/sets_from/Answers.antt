-- The first i places.
use Rattle.verdict.proofs.Passing.{sets-none}
use Rattle.verdict.proofs.sets_from.Goals as goal

pub loop-i-init : goal.loop-i-init
loop-i-init c = sets-none c.args.case.now c.args.k
