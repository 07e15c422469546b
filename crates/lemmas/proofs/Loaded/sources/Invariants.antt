use Rattle.lemmas.specs.Sources.{the_program, source_of}
use Rattle.lemmas.proofs.Slots.{Slots}
use Rattle.lemmas.proofs.Loaded.sources.Given as goal

abbrev pub invariant-loop-a : goal.invariant-loop-a
invariant-loop-a l = Slots (source_of (the_program l.self.words.now)) l.t l.a
