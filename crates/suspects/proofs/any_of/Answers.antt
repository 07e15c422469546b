-- `Asking`; the set that is left falls.
use native.Mathlib.Omega.{arith}
use Rattle.suspects.proofs.Finding.{asking_next}
use Rattle.suspects.proofs.any_of.Goals as goal

pub loop-s-preserved : goal.loop-s-preserved
loop-s-preserved c = asking_next c.loop-s.invariant (λ e. omega arith)
