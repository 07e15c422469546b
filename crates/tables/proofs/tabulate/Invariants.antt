use Rattle.lemmas.specs.Sources.{the_program}
use Rattle.tables.specs.Tabled.{the_lemmas}
use Rattle.tables.proofs.Filling.{Filling}
use Rattle.tables.proofs.tabulate.Given as goal

abbrev pub invariant-loop-k : goal.invariant-loop-k
invariant-loop-k l = Filling (the_program l.loaded.words.now) (the_lemmas (the_program l.loaded.words.now) l.lemmas) l.entries l.n l.k
