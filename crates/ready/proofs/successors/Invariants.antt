-- The first 2 * h actions are ready.
use mathlib.Core.List.{List}
use Rattle.gather.specs.declared.Entry.{Entry}
use Prim.Native.Nat.{ℕ}
use Rattle.block.specs.Blocks.{Block}
use Rattle.ready.specs.Ready.{Ready}
use Rattle.ready.proofs.Storing.{Left}
use Rattle.ready.proofs.successors.Given as goal

abbrev pub invariant-loop-h : goal.invariant-loop-h
invariant-loop-h l =
    Left l.initial.scratch l.scratch × ((kept nodes : List ℕ) (es : List Entry) → Block kept nodes es l.initial.scratch → Ready kept nodes es l.h l.scratch l.gone)
