-- What is left of the places from `place` on is left to be laid.
use Prim.Native.Nat.{◌+◌, ◌-◌, ◌≤◌}
use Rattle.sheet.specs.Laying.{missed}
use Rattle.sheet.proofs.Laying.{Left}
use Rattle.sheet.proofs.lay_missed.Given as goal

abbrev pub invariant-loop-place : goal.invariant-loop-place
invariant-loop-place l =
    (l.at + 28 ≤ l.i + l.place) × Left (missed l.missing l.k l.j 28 16) l.initial.list l.i l.list l.at (missed l.missing l.k l.j l.place (44 - l.place))
