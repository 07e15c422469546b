use mathlib.Core.Path.{◌≡◌}
use Prim.Native.Nat.{◌+◌}
use lib.ListN.{drop}
use Rattle.runs.specs.Runs.{lowest_off}
use Rattle.runs.proofs.lowest_off.Given as goal

abbrev pub invariant-loop-v : goal.invariant-loop-v
invariant-loop-v l = l.v + lowest_off (drop l.v l.ranges) (drop l.v l.x) ≡ lowest_off l.ranges l.x
