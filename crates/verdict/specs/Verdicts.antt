-- The findings of a whole graph in judging order, and what Judge leaves in the path list.
--
-- opposite, contradicted               — the other literal of the predicate; some literal of a node is the opposite of one of a combination
-- unless                               — what is found unless a test holds
-- forbids                              — the combinations that no literal of the node contradicts
-- ends                                 — the ends of an action's variables that no lemma shows at the node
-- has_next                             — formula (3) gives a successor
-- runs_off                             — those ends, of the actions from j on that have a successor at a node with the literals m
-- findings_at, findings_from, findings — at node k; from node k on; of the graph
-- node_of                              — the node of a finding
-- path_list                            — the path in its list: STEP words, then zeros up to its room, then what was there
-- steps_in                             — the actions of the STEP words at the front of a path list
-- steps_to                             — the steps to node k
use Rattle.std.specs.Prelude.{Bool, true, false, cond, ◌||◌, List, [], ◌∷◌, ◌++◌, map, ℕ, zero, suc, ◌-◌, eqb, length, drop, replicate}
use Rattle.words.specs.Words.{word, kind_of, payload, STEP}
pub use Rattle.words.specs.Limits.{path_words}
use Rattle.verdict.specs.declared.Finding.{Finding}
use Rattle.verdict.specs.declared.Finding.TheVariants.{Forbid, RunOff}
use Rattle.words.specs.declared.Literals.{Literals}
use Rattle.grammar.specs.Programs.{Assignment, Action, Program}
use Rattle.lemmas.specs.Lemmas.{Goal, NotBelow, NotAbove, Lemma}
use Rattle.words.specs.LiteralSets.{Literal, B, NotB, literals_in}
use Rattle.formula.specs.Formula.{Monomial, False, And}
use Rattle.search.specs.Search.{Graph, count}
use Rattle.search.specs.Paths.{path}
use Rattle.records.specs.Records.{most_nodes}
use Rattle.abstraction.specs.Abstraction.{among, applies, successor}
use Rattle.abstraction.specs.Faithful.{literals_at}

abbrev pub opposite : Literal → Literal
opposite (B j) = NotB j
opposite (NotB j) = B j

-- some literal of the node m contradicts the combination
unfoldable pub contradicted : List Literal → List Literal → Bool
contradicted [] m = false
contradicted (l ∷ ls) m = among (opposite l) m || contradicted ls m

abbrev pub unless : Bool → Finding → List Finding
unless b f = cond b [] (f ∷ [])

-- The forbidden combinations in order: one that no literal of the node contradicts gives may forbid.
unfoldable pub forbids : ℕ → List Literal → ℕ → List Literals → List Finding
forbids k m b [] = []
forbids k m b (c ∷ cs) = unless (contradicted (literals_in 14 c.0) m) (Forbid k b) ++ forbids k m (suc b) cs

-- Each variable that the action sets, low end before high: no applying lemma gives may run off.
unfoldable pub ends : (Goal → ℕ → Bool) → ℕ → ℕ → List Assignment → List Finding
ends shows k j [] = []
ends shows k j (s ∷ ss) =
    unless (shows NotBelow s.variable) (RunOff k j s.variable false)
    ++ (unless (shows NotAbove s.variable) (RunOff k j s.variable true) ++ ends shows k j ss)

abbrev pub has_next : Monomial → Bool
has_next False = false
has_next (And m) = true

-- Then each action that has a successor.
unfoldable pub runs_off : Program → List Lemma → List Literal → ℕ → ℕ → List Action → List Finding
runs_off p ls m k j [] = []
runs_off p ls m k j (a ∷ rest) = cond (has_next (successor p ls j m)) (ends (applies p ls j m) k j a.sets) [] ++ runs_off p ls m k (suc j) rest

abbrev pub findings_at : Program → List Lemma → Graph → ℕ → List Finding
findings_at p ls g k = forbids k (literals_at g k) 0 p.forbidden ++ runs_off p ls (literals_at g k) k 0 p.actions

-- Nodes in number order: n of them from node k on.
unfoldable pub findings_from : Program → List Lemma → Graph → ℕ → ℕ → List Finding
findings_from p ls g k zero = []
findings_from p ls g k (suc n) = findings_at p ls g k ++ findings_from p ls g (suc k) n

abbrev pub findings : Program → List Lemma → Graph → List Finding
findings p ls g = findings_from p ls g 0 (count g)

abbrev pub node_of : Finding → ℕ
node_of (Forbid k b) = k
node_of (RunOff k j v high) = k

-- The STEP words from node 0 to the node, at the front of the path list, the rest of its first 512 words zero.
abbrev pub path_list : List ℕ → List ℕ → List ℕ
path_list js l₀ = map (word STEP) js ++ (replicate (path_words - length js) 0 ++ drop path_words l₀)

unfoldable pub steps_in : List ℕ → List ℕ
steps_in [] = []
steps_in (w ∷ ws) = cond (eqb (kind_of w) STEP) (payload w ∷ steps_in ws) []

abbrev pub steps_to : Graph → ℕ → List ℕ
steps_to g k = path g.origins most_nodes k
