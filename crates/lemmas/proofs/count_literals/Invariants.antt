use Rattle.lemmas.proofs.HeadLaws.{Counting}
use Rattle.lemmas.proofs.count_literals.Given as goal

abbrev pub invariant-loop-i : goal.invariant-loop-i
invariant-loop-i l = Counting l.n l.set l.i l.total
