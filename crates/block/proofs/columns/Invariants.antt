-- The first i words are copied.
use mathlib.Core.Path.{◌≡◌}
use lib.ListN.{get_or, length}
use Prim.Native.Nat.{ℕ, ◌<◌}
use Rattle.block.proofs.columns.Given as goal

abbrev pub invariant-loop-i : goal.invariant-loop-i
invariant-loop-i l = (length l.a ≡ 64) × ((k : ℕ) → k < l.i → get_or l.a k 0 ≡ get_or l.nodes k 0)
