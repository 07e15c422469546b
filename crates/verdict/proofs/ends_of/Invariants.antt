-- What is asked for is the ends of the marked variables below v.
use mathlib.Core.Path.{◌≡◌}
use Rattle.verdict.specs.Working.{ends_to}
use Rattle.verdict.proofs.ends_of.Given as goal

abbrev pub invariant-loop-v : goal.invariant-loop-v
invariant-loop-v l = l.w ≡ ends_to l.marked-items l.v
