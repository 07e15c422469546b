-- The combinations so far.
use mathlib.Core.List.{List}
use Prim.Native.Nat.{ℕ}
use Rattle.block.specs.Blocks.{Columns}
use Rattle.suspects.specs.Suspects.{Small, AllOpposed}
use Rattle.suspects.proofs.all_opposed.Given as goal

abbrev pub invariant-loop-c : goal.invariant-loop-c
invariant-loop-c l = (nodes : List ℕ) → Small nodes → Columns nodes l.columns → AllOpposed nodes l.fn.literals l.c-index l.r
