-- Written out step by step, so that an edit is refused by a fact.
use mathlib.Core.Path.{sym, ◌∙◌}
use Prim.Native.Nat.{◌≤◌}
use native.Mathlib.Omega.{arith}
use lib.ListN.{length}
use Rattle.records.specs.Records.{record_place}
use Rattle.view.proofs.Reading.{size_is, word-there}
use Rattle.view.proofs.successor_at.Goals as goal

pub returns : goal.returns
returns c =
    let a = c.args in
    let long : record_place a.actions a.nodes ≤ length a.graph.now = rw (size_is a.nodes a.actions _ c.record_place-size.ensures.0) at c.if-graph-nodes.false in
    c.edge_of.ensures ∙ rw c.edge_place-at.ensures.0
    (sym (word-there a.graph.now a.nodes a.actions a.node a.action long (omega arith) (omega arith) (omega arith) (omega arith)))
