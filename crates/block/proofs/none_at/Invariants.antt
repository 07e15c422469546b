-- The first p predicates are asked.
use Prim.Native.Nat.{◌*◌}
use Rattle.block.proofs.Wording.{Mixed}
use Rattle.block.proofs.none_at.Given as goal

abbrev pub invariant-loop-p : goal.invariant-loop-p
invariant-loop-p l = Mixed l.table (l.j * 64) l.p l.r
