use mathlib.Core.Path.{◌≡◌}
use lib.ListN.{drop}
use Rattle.runs.specs.Guards.{first_failing}
use Rattle.runs.proofs.Guards.{past}
use Rattle.runs.proofs.first_failing.Given as goal

abbrev pub invariant-loop-k : goal.invariant-loop-k
invariant-loop-k l = past l.k (first_failing (drop l.k l.rows) l.x) ≡ first_failing l.rows l.x
