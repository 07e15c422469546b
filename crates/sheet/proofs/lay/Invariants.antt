-- What is left of the nodes from k on is left to be laid; within a block `passed` speaks of its nodes.
use mathlib.Core.List.{List}
use Prim.Native.Nat.{◌-◌, ◌*◌, ◌/◌, ◌%◌, ◌<◌, ◌≤◌}
use Rattle.grammar.specs.Programs.{Program}
use Rattle.lemmas.specs.Lemmas.{Lemma}
use Rattle.search.specs.Search.{Graph, count}
use Rattle.verdict.specs.Verdicts.{findings_from, findings}
use Rattle.verdict.specs.Working.{Judging, Clean}
use Rattle.sheet.proofs.Laying.{Left}
use Rattle.sheet.proofs.lay.Given as goal

abbrev pub invariant-loop-k : goal.invariant-loop-k
invariant-loop-k l =
    (l.at ≤ l.k * 264)
    × ((p : Program) (ls : List Lemma) (g : Graph) → Judging p ls g l.case → Left (findings p ls g) l.initial.list 0 l.list l.at (findings_from p ls g l.k (count g - l.k)))
    × (0 < l.k % 64 → Clean l.case (l.k / 64 * 64) l.passed)
