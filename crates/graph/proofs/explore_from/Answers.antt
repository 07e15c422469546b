-- The list holds the graph after the first k nodes, `Running`, and the block is usable.
use native.Mathlib.Omega.{arith}
use mathlib.Core.Logic.{inl, inr}
use lib.ListN.{get_or-replicate}
use Rattle.records.proofs.Places.{most}
use Rattle.graph.specs.Graph.{next_of}
use Rattle.graph.proofs.Nodes.{first-node, taken-on, all-over, all_done}
use Rattle.graph.proofs.explore_from.Goals as goal
use Rattle.graph.proofs.explore_from.Goals.{At-loop-k, then-is_due, else-is_due}

pub loop-k-init : goal.loop-k-init
loop-k-init c =
    let a = c.args in
    (first-node (next_of a.entries.now a.kept.now) a.actions a.start a.graph.now _ c.begin.ensures (omega arith), inl (λ i h. get_or-replicate 64 i 0xFFFFFFFF 0 h))

pub turn_in-requires-clause-block : goal.turn_in-requires-clause-block
turn_in-requires-clause-block c =
    (omega arith, omega arith, elim c.if-is_due.branch [ then-is_due w ↦ rw (w.scratch-is, w.words-is, w.gone-is) (inr w.ready_block-gone.ensures) | else-is_due w ↦ rw (w.scratch-is, w.words-is, w.gone-is) c.loop-k.invariant.1 ])

pub returns-in_err-nodes : goal.returns-in_err-nodes
returns-in_err-nodes c =
    let l = c.loop-k in
    let a = c.args in
    rw c.from_residual.ensures
    (rw c.in_err-nodes.was at
    (all-over (next_of a.entries.now a.kept.now) a.actions a.start a.graph.now _ l.graph c.begin.ensures l.nodes l.edges l.k l.invariant.0 c.turn_in.result c.turn_in.new.graph c.loop-k-test.true c.turn_in.ensures c.in_err-nodes.was))

pub loop-k-preserved : goal.loop-k-preserved
loop-k-preserved c =
    let l = c.loop-k in
    let a = c.args in (
      taken-on (next_of a.entries.now a.kept.now) a.actions a.start a.graph.now _ l.graph c.begin.ensures l.nodes l.edges l.k l.invariant.0 c.turn_in.result _ (omega arith) c.turn_in.ensures _ _ c.in_ok-nodes.was,
      elim c.if-is_due.branch [ then-is_due w ↦ rw (w.scratch-is, w.words-is, w.gone-is) (inr w.ready_block-gone.ensures) | else-is_due w ↦ rw (w.scratch-is, w.words-is, w.gone-is) l.invariant.1 ],
    )

pub returns : goal.returns
returns c =
    let l = c.loop-k in
    let a = c.args in
    all_done (next_of a.entries.now a.kept.now) a.actions a.start a.graph.now _ l.graph c.begin.ensures l.nodes l.edges l.k l.invariant.0 (omega arith)
    (omega (arith, most l.nodes a.actions (omega arith) (omega arith)))
