-- The first p places of both actions are laid out.
use Prim.Native.Nat.{◌*◌}
use Rattle.block.proofs.Wording.{Laid}
use Rattle.block.proofs.words_of.Given as goal

abbrev pub invariant-loop-p : goal.invariant-loop-p
invariant-loop-p l = Laid l.table (l.h * 128) l.p l.a
