use mathlib.Core.Path.{◌≡◌}
use Prim.Native.Nat.{◌-◌}
use mathlib.Core.List.{◌++◌}
use lib.IntN.{pos}
use lib.ListN.{take, replicate}
use Rattle.runs.proofs.widened.Given as goal

abbrev pub invariant-loop-v : goal.invariant-loop-v
invariant-loop-v l = l.x ≡ take l.v l.state ++ replicate (8 - l.v) (pos 0)
