-- Nothing is found of the actions before j.
use mathlib.Core.Path.{◌≡◌}
use Prim.Native.Nat.{◌-◌}
use Rattle.verdict.specs.Working.{first_unshown}
use Rattle.verdict.proofs.first_unshown.Given as goal

abbrev pub invariant-loop-j : goal.invariant-loop-j
invariant-loop-j l = first_unshown l.asked l.shown l.k l.j (l.actions - l.j) ≡ first_unshown l.asked l.shown l.k 0 l.actions
