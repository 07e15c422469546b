-- `sums::after` meets its contract. The invariant: the rows of the variables so far are added.
use lib.ListN.{length}
use Rattle.sums.proofs.Room.{Part}
use Rattle.sums.proofs.after.Given as goal

abbrev pub invariant-loop-c : goal.invariant-loop-c
invariant-loop-c l = Part l.fn.g l.fn.rows (length l.yielded) l.s
