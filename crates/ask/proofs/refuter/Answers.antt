use mathlib.Core.Path.{refl}
use native.Mathlib.Omega.{arith}
use borrow.Author.Tests.{ne_eqb}
use Rattle.sums.proofs.Room.{room-negated}
use Rattle.ask.proofs.refuter.Goals as goal

pub returns-else-goal-eq2 : goal.returns-else-goal-eq2
returns-else-goal-eq2 c = rw (c.negate.ensures, ne_eqb c.args.goal 2 (omega arith)) (refl, room-negated _ c.requires)
