use lib.ListN.{take}
use Rattle.gather.proofs.Tables.{Pending}
use Rattle.gather.proofs.gather_all.Given as goal

abbrev pub invariant-loop-entry : goal.invariant-loop-entry
invariant-loop-entry l = Pending l.initial.t l.node (take l.entry-index l.entries) l.t l.a l.g
