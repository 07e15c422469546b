-- `rows::products` meets its contract. The invariant: the sum is that of the products so far.
use lib.ListN.{length}
use Rattle.rows.proofs.Laws.{Partial}
use Rattle.rows.proofs.products.Given as goal

abbrev pub invariant-loop-a : goal.invariant-loop-a
invariant-loop-a l = Partial l.fn.coef l.fn.x (length l.yielded) l.s
