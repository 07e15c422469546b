-- What is left of the combinations from b on is left to be laid.
use Prim.Native.Nat.{◌+◌, ◌≤◌}
use lib.ListN.{drop}
use Rattle.sheet.specs.Laying.{free}
use Rattle.sheet.proofs.Laying.{Left}
use Rattle.sheet.proofs.lay_free.Given as goal

abbrev pub invariant-loop-b : goal.invariant-loop-b
invariant-loop-b l =
    (l.at ≤ l.i + l.b) × Left (free l.set l.k 0 l.combinations) l.initial.list l.i l.list l.at (free l.set l.k l.b (drop l.b l.combinations))
