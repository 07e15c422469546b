use mathlib.Core.List.{◌++◌}
use Prim.Native.Nat.{◌≤◌}
use lib.ListN.{drop}
use Rattle.reader.specs.Results.{zero_rows}
use Rattle.reader.proofs.RowsLoop.{RowsLoop}
use Rattle.reader.proofs.read_rows.Given as goal

abbrev pub invariant-loop-slot : goal.invariant-loop-slot
invariant-loop-slot l = (l.vars ≤ 8) × (l.n ≤ 14) × RowsLoop l.words l.at l.n l.vars (l.slot-items ++ drop l.n zero_rows) l.i l.slot-index
