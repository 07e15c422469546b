-- The first j actions.
use mathlib.Core.List.{List}
use Prim.Native.Nat.{ℕ}
use Rattle.gather.specs.declared.Entry.{Entry}
use Rattle.block.specs.Blocks.{Block}
use Rattle.suspects.specs.Suspects.{AllKeep}
use Rattle.suspects.proofs.all_keep.Given as goal

abbrev pub invariant-loop-j : goal.invariant-loop-j
invariant-loop-j l = (kept nodes : List ℕ) (es : List Entry) → Block kept nodes es l.table → AllKeep kept nodes es l.fn.asked l.j l.r
