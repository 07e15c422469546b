use mathlib.Core.Path.{◌≡◌}
use Prim.Native.Nat.{◌-◌}
use lib.ListN.{length}
use Rattle.words.specs.Words.{LEMMA}
use Rattle.programs.proofs.ManyLaws.{Loop}
use Rattle.lemmas.specs.LemmaGrammar.{lemma}
use Rattle.lemmas.specs.Sources.{the_program}
use Rattle.lemmas.proofs.ListLaws.{begins_from}
use Rattle.lemmas.proofs.read_lemmas.Given as goal

abbrev pub invariant-loop-begins : goal.invariant-loop-begins
invariant-loop-begins l = Loop LEMMA (lemma (the_program l.loaded.words.now)) 512 begins_from l.lemmas 0 l.initial.begins l.begins l.i l.k × (length l.begins ≡ length l.initial.begins)

abbrev pub decreases-loop-begins : goal.decreases-loop-begins
decreases-loop-begins l = 512 - l.k
