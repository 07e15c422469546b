-- The list holds the graph after the first k nodes, `Running`, and the block is usable. The measure is what is left of the most nodes
-- that there may be.
use Prim.Native.Nat.{◌-◌}
use Rattle.records.specs.Records.{most_nodes}
use Rattle.graph.specs.Graph.{next_of, Usable}
use Rattle.graph.proofs.Nodes.{Running}
use Rattle.graph.proofs.explore_from.Given as goal

abbrev pub invariant-loop-k : goal.invariant-loop-k
invariant-loop-k l =
    Running (next_of l.entries l.kept) l.actions l.start l.initial.graph l.graph l.nodes l.edges l.k
    × Usable l.kept l.words l.entries l.scratch l.gone

abbrev pub decreases-loop-k : goal.decreases-loop-k
decreases-loop-k l = most_nodes - l.k
