-- The mask has both literals of the untouched predicates below j.
use mathlib.Core.Path.{◌≡◌}
use Rattle.frame.specs.Masks.{mask_by}
use Rattle.frame.proofs.mask_by.Given as goal

abbrev pub invariant-loop-j : goal.invariant-loop-j
invariant-loop-j l = l.mask ≡ mask_by l.predicates l.set l.j
