use Rattle.lemmas.proofs.ListLaws.{Mults}
use Rattle.lemmas.proofs.read_mults.Given as goal

abbrev pub invariant-loop-k : goal.invariant-loop-k
invariant-loop-k l = Mults l.lemmas l.at l.n l.k
