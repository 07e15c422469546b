use native.Mathlib.Omega.{arith}
use Rattle.block.proofs.Meeting.{columns-made}
use Rattle.block.proofs.columns.Goals as goal

pub returns : goal.returns
returns c = columns-made (λ k h. c.loop-i.invariant.1 k (omega arith)) c.transpose.ensures
