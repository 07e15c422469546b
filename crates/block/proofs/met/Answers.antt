use native.Mathlib.Omega.{arith}
use Rattle.block.proofs.Meeting.{member_below}
use Rattle.block.proofs.Filling.{met}
use Rattle.block.proofs.met.Goals as goal

pub meet-requires : goal.meet-requires
meet-requires c x m = omega (arith, member_below 32 x c.from.result (omega arith) m)

pub returns : goal.returns
returns c nodes i k h = met c.args.entry.premises c.meet.result k (omega arith) (rw c.from.ensures at c.meet.ensures) i h
