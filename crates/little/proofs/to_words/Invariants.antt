-- The first k words are written, the rest is as it was.
use mathlib.Core.Path.{◌≡◌}
use mathlib.Core.List.{◌++◌}
use lib.ListN.{drop}
use Rattle.little.specs.LittleEndian.{words_of}
use Rattle.little.proofs.to_words.Given as goal

abbrev pub invariant-loop-k : goal.invariant-loop-k
invariant-loop-k l = l.words ≡ words_of l.b l.k ++ drop l.k l.initial.words
