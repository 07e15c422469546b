-- The list holds the graph after the first j actions, `Going`.
use lib.ListN.{get_or}
use Rattle.records.specs.Records.{record_place}
use Rattle.graph.specs.Graph.{Gives}
use Rattle.graph.proofs.Turns.{Going}
use Rattle.graph.proofs.turn.Given as goal

abbrev pub invariant-loop-j : goal.invariant-loop-j
invariant-loop-j g l =
    Going (Gives (goal.F-post g l.next) l.actions (get_or l.initial.graph (record_place l.actions l.k) 0)) l.initial.graph l.fn.nodes l.fn.edges l.k l.actions l.graph l.counts.0 l.counts.1 l.j
