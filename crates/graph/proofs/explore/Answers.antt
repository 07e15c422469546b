-- What is behind the records is cleared after the search: the whole room where there are too many nodes.
use mathlib.Core.Path.{◌≡◌, refl, sym, ap, ◌∙◌}
use native.Mathlib.Omega.{arith}
use Rattle.gather.specs.Gathering.{successor_of}
use Rattle.search.specs.Search.{To, None}
use Rattle.records.specs.Records.{graph_words}
use Rattle.graph.specs.Graph.{answer_of, next_of, start_of}
use Rattle.graph.proofs.Nodes.{rest_cleared, few-found, cleared-found, cleared-none}
use Rattle.graph.proofs.explore.Goals as goal

pub taken-used-requires : goal.taken-used-requires
taken-used-requires c =
    let a = c.args in
    (c.requires.3, few-found (next_of a.entries.now a.kept.now) a.actions a.graph.now _ c.explore_from-r.result _ c.explore_from-r.ensures)

pub returns-in_default : goal.returns-in_default
returns-in_default c =
    let a = c.args in
    let none : start_of a.entries.now ≡ None = ap answer_of (ap successor_of (sym c.gather-known.ensures) ∙ sym c.successor_of.ensures ∙ c.in_default.is) in
    cleared-none (next_of a.entries.now a.kept.now) a.actions a.graph.now none _ c.clear.ensures

pub returns : goal.returns
returns c =
    let a = c.args in
    let some : start_of a.entries.now ≡ To c.node_word-w.result = ap answer_of (ap successor_of (sym c.gather-known.ensures) ∙ sym c.successor_of.ensures ∙ c.in-Some.is) ∙ ap To (sym c.node_word-w.ensures) in
    cleared-found (next_of a.entries.now a.kept.now) a.actions a.graph.now c.node_word-w.result c.explore_from-r.result _ c.explore_from-r.ensures some
    c.requires.3 _ c.taken-used.result c.taken-used.ensures.0 (rest_cleared _ _ c.taken-used.result _ graph_words c.taken-used.ensures.1 (omega (arith, c.explore_from-r.auto.graph, c.requires.1)) refl c.clear-2.ensures)
