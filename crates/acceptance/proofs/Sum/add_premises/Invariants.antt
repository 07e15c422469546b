-- `Sum::add_premises` meets its contract. The invariant: the literals of the predicates below p are added.
use Rattle.acceptance.proofs.Laws.{Premised}
use Rattle.acceptance.proofs.Sum.add_premises.Given as goal

abbrev pub invariant-loop-p : goal.invariant-loop-p
invariant-loop-p l = Premised l.mults l.initial.s l.preds l.set l.p l.s
