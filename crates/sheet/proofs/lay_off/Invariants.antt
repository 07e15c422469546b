-- What is left of the actions from j on is left to be laid.
use Prim.Native.Nat.{◌+◌, ◌-◌, ◌*◌, ◌≤◌}
use Rattle.sheet.specs.Laying.{offs}
use Rattle.sheet.proofs.Laying.{Left}
use Rattle.sheet.proofs.lay_off.Given as goal

abbrev pub invariant-loop-j : goal.invariant-loop-j
invariant-loop-j l =
    (l.at ≤ l.i + l.j * 16) × Left (offs l.asked l.shown l.k 0 l.actions) l.initial.list l.i l.list l.at (offs l.asked l.shown l.k l.j (l.actions - l.j))
