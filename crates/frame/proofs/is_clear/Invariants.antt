-- The coefficients so far are zero where they are marked, or not.
use mathlib.Core.Path.{◌≡◌}
use lib.ListN.{length}
use Rattle.frame.specs.Masks.{clear_below}
use Rattle.frame.proofs.is_clear.Given as goal

abbrev pub invariant-loop-marked : goal.invariant-loop-marked
invariant-loop-marked l = l.clear ≡ clear_below l.fn.set l.fn.row.coef (length l.yielded)
