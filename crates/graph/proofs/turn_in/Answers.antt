-- The block has the node's set, or the turn goes by itself.
use Prim.Native.Nat.{◌%◌}
use mathlib.Core.Path.{◌≡◌, sym, ap, ◌∙◌}
use native.Mathlib.Omega.{arith}
use borrow.Author.Rules.{rules}
use lib.ListN.{get_or}
use Rattle.gather.specs.Gathering.{successor_of}
use Rattle.block.specs.Blocks.{after}
use Rattle.graph.specs.Graph.{answer_of, next_of}
use Rattle.graph.proofs.Turns.{set_at, table_gives, ready_gives, usable_ready}
use Rattle.graph.proofs.turn_in.Goals as goal

pub returns-then-held-set : goal.returns-then-held-set
returns-then-held-set c =
    let a = c.args in
    let es = a.entries.now in
    let i = a.k % 64 in
    let e = set_at _ _ (get_or a.words.now i 0) c.of-set.result c.word.ensures c.of-set.ensures (omega arith) in
    let ready = usable_ready i _ c.requires.block.2 (omega arith) e in
    c.turn.ensures (next_of es a.kept.now)
    (λ j s lt post. let is : s ≡ successor_of (after a.kept.now j (get_or a.words.now i 0) es) = search (rules, ready) in ready_gives es a.kept.now _ _ j s e is)

pub returns-else-held-set : goal.returns-else-held-set
returns-else-held-set c =
    let a = c.args in
    let es = a.entries.now in
    c.turn-else-held-set.ensures (next_of es a.kept.now)
    (λ j s lt post. let is : s ≡ successor_of (get_or c.gather_all-known.result j 0) = search rules in
    table_gives es a.kept.now _ _ _ c.gather_all-known.result j c.word.ensures c.of-set.ensures c.gather_all-known.ensures (omega arith) ∙ ap answer_of (sym is))
