-- The ways through to a node are two laws, known and fresh.
use native.Mathlib.Omega.{arith}
use Rattle.records.proofs.Stores.{known, fresh}
use Rattle.records.proofs.enter.Goals as goal

pub returns-in-Some-clause-turn : goal.returns-in-Some-clause-turn
returns-in-Some-clause-turn c =
    let a = c.args in
    rw c.edge_place-place.ensures.0
    (known a.graph.now a.actions a.nodes a.edges a.k a.j c.requires.0 c.requires.1 a.w c.edge_word.result c.in-Some.at c.in-Some.ensures c.edge_word.ensures)

pub returns-in-None-2-clause-turn : goal.returns-in-None-2-clause-turn
returns-in-None-2-clause-turn c =
    let a = c.args in
    rw (c.store.ensures, c.edge_place-place.ensures.0, c.record_place-new.ensures.0)
    (fresh a.graph.now a.actions a.nodes a.edges a.k a.j c.requires.0 c.requires.1 a.w c.edge_word-in-None-2.result c.origin_word.result c.distance-parent.result c.in-None-2.ensures (omega arith) c.origin_word.ensures c.distance-parent.ensures.0 c.edge_word-in-None-2.ensures)
