use Rattle.records.proofs.Stores.{none}
use Rattle.records.proofs.enter_none.Goals as goal

pub returns : goal.returns
returns c =
    let a = c.args in
    rw c.edge_place-place.ensures.0 (none a.graph.now a.actions a.nodes a.edges a.k a.j c.requires.0 c.requires.1 c.word.result c.word.ensures)
