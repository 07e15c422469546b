-- Nothing is found before node k; within a block `passed` speaks of its nodes.
use mathlib.Core.List.{List}
use Prim.Native.Nat.{◌*◌, ◌/◌, ◌%◌, ◌<◌}
use Rattle.grammar.specs.Programs.{Program}
use Rattle.lemmas.specs.Lemmas.{Lemma}
use Rattle.search.specs.Search.{Graph}
use Rattle.verdict.specs.Working.{Judging, Clean}
use Rattle.verdict.proofs.Judging.{Nothing_before}
use Rattle.verdict.proofs.first_finding.Given as goal

abbrev pub invariant-loop-k : goal.invariant-loop-k
invariant-loop-k l =
    ((p : Program) (ls : List Lemma) (g : Graph) → Judging p ls g l.case → Nothing_before p ls g l.k) × (0 < l.k % 64 → Clean l.case (l.k / 64 * 64) l.passed)
