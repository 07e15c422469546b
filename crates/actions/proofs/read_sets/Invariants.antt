use Prim.Native.Nat.{◌≤◌}
use Rattle.actions.proofs.SetsLoop.{SetsLoop}
use Rattle.actions.proofs.read_sets.Given as goal

abbrev pub invariant-loop : goal.invariant-loop
invariant-loop l = (l.vars ≤ 8) × SetsLoop l.words l.at l.n l.vars l.rows l.set l.low l.i l.counter
