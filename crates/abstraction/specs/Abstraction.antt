-- The abstract state graph of a program and a lemma list: formula (3) read with "an accepted lemma of the list shows it" and "the action leaves it
-- untouched", and its exploration.
--
-- same_literal, among, all_among — a literal is one of some; all of some are
-- lemma_applies, applies         — a lemma applies at an abstract state, for a source, a goal and an index; some lemma of the list does
-- shown                          — the facts that the list shows
-- successor, start               — formula (3) for an action; for the start
-- answer                         — a monomial as the search has it: a node's word is its SETS word
-- graph                          — the graph, or that there are too many nodes
use Rattle.std.specs.Prelude.{Bool, true, false, ◌&&◌, ◌||◌, List, [], ◌∷◌, ℕ, eqb, length}
use Rattle.words.specs.Words.{payload, word, SETS}
use Rattle.grammar.specs.Programs.{Program}
use Rattle.lemmas.specs.Lemmas.{Goal, CannotHappen, HoldsAfter, FailsAfter, goal_number, Lemma, START, accepted}
use Rattle.frame.specs.Frame.{untouched}
use Rattle.words.specs.LiteralSets.{Literal, B, NotB, literals_in, set_of}
use Rattle.formula.specs.Formula.{Monomial, False, And, Fact, Disabled, Then, formula3}
use Rattle.search.specs.Search.{Answer, To, None, Result, explored}
use Rattle.records.specs.Records.{most_nodes}

abbrev pub same_literal : Literal → Literal → Bool
same_literal (B i) (B j) = eqb i j
same_literal (B i) (NotB j) = false
same_literal (NotB i) (B j) = false
same_literal (NotB i) (NotB j) = eqb i j

unfoldable pub among : Literal → List Literal → Bool
among l [] = false
among l (m ∷ ms) = same_literal l m || among l ms

unfoldable pub all_among : List Literal → List Literal → Bool
all_among [] ms = true
all_among (l ∷ ls) ms = among l ms && all_among ls ms

-- A lemma applies at a node when it is accepted and its premises are all literals of the node.
abbrev pub lemma_applies : Program → ℕ → List Literal → Goal → ℕ → Lemma → Bool
lemma_applies p source exp goal index l =
    accepted p l && eqb l.source source && eqb (goal_number l.goal) (goal_number goal) && eqb l.index index
    && all_among (literals_in 14 l.premises.0) exp

unfoldable pub applies : Program → List Lemma → ℕ → List Literal → Goal → ℕ → Bool
applies p [] source exp goal index = false
applies p (l ∷ ls) source exp goal index = lemma_applies p source exp goal index l || applies p ls source exp goal index

abbrev pub shown : Program → List Lemma → ℕ → List Literal → Fact → Bool
shown p ls source exp Disabled = applies p ls source exp CannotHappen 0
shown p ls source exp (Then (B j)) = applies p ls source exp HoldsAfter j
shown p ls source exp (Then (NotB j)) = applies p ls source exp FailsAfter j

-- Request 1: the literals of the predicates that the action leaves untouched are kept.
abbrev pub successor : Program → List Lemma → ℕ → List Literal → Monomial
successor p ls source exp = formula3 (shown p ls source exp) (untouched p source) (λ m. among m exp) (length p.predicates)

abbrev pub start : Program → List Lemma → Monomial
start p ls = successor p ls START []

-- ---- the exploration
abbrev pub answer : Monomial → Answer
answer False = None
answer (And ms) = To (word SETS (set_of ms))

-- Nodes are taken in number order, actions in number order; a new set of literals gets the next number.
abbrev pub graph : Program → List Lemma → Result
graph p ls = explored (λ w j. answer (successor p ls j (literals_in 14 (payload w)))) (length p.actions) most_nodes (answer (start p ls))
