-- The table is that of the entries so far, for any nodes with these columns.
use mathlib.Core.List.{List}
use lib.ListN.{take}
use Prim.Native.Nat.{ℕ}
use Rattle.block.specs.Blocks.{Columns, Block}
use Rattle.block.proofs.gather_block.Given as goal

abbrev pub invariant-loop-entry : goal.invariant-loop-entry
invariant-loop-entry l = (nodes : List ℕ) → Columns nodes l.columns → Block l.kept nodes (take l.entry-index l.entries) l.table
