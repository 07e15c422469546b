-- What a view over a graph list answers.
--
-- edge_of     — what a word, which stands at a place, says of a successor
-- viewed      — the answer for a list, a number of nodes, a number of actions, a node and an action
-- edge_viewed — a graph's edge as an answer
use Rattle.std.specs.Prelude.{Option, Some, None, Result, Ok, Err, ℕ, cond, List, length, get_or, ltb, leb, eqb}
use Rattle.words.specs.Words.{kind_of, payload, EDGE, no_node}
use Rattle.words.specs.Limits.{most_actions}
use Rattle.words.specs.declared.Refusal.{Refusal}
use Rattle.words.specs.declared.Refusal.TheVariants.{Short, Word, Limit, Absent}
use Rattle.search.specs.Search.{Answer, To}
use Rattle.search.specs.Search.{None as Nowhere}
use Rattle.records.specs.Records.{most_nodes, record_place, edge_place}

abbrev pub edge_of : ℕ → ℕ → Result (Option ℕ) Refusal
edge_of w at = cond (eqb (kind_of w) EDGE) (cond (eqb (payload w) no_node) (Ok None) (Ok (Some (payload w)))) (Err (Word at))

-- in this order: too many nodes or actions; the list ends before its records do; no such node; no such action; no EDGE there
unfoldable pub viewed : List ℕ → ℕ → ℕ → ℕ → ℕ → Result (Option ℕ) Refusal
viewed l nodes actions node action =
    cond (ltb most_nodes nodes) (Err (Limit 0))
    (cond (ltb most_actions actions) (Err (Limit 0))
    (cond (ltb (length l) (record_place actions nodes)) (Err (Short 0))
    (cond (leb nodes node) (Err (Absent node))
    (cond (leb actions action) (Err (Absent action))
    (edge_of (get_or l (edge_place actions node action) 0) (edge_place actions node action))))))

abbrev pub edge_viewed : Answer → Result (Option ℕ) Refusal
edge_viewed (To m) = Ok (Some m)
edge_viewed Nowhere = Ok None
