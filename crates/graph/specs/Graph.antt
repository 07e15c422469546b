-- The abstract state graph of accepted lemmas, given by their entries, and of masks of the literals that each action keeps.
--
-- answer_of          — a successor as the search has it: a node's word is a SETS word
-- Gives              — what may come after each of a actions is what a successor function gives at the word w
-- next_of            — the successor of a node's word by an action
-- start_of           — the successor of the start
-- graph_of           — the graph, or that there are too many nodes
-- Usable             — a block of sets: at first no node has any of them; then their successors are ready
-- FewNodes, taken_by — a search found at most most_nodes nodes; how many words their records take, none where there are too many
use Rattle.std.specs.Prelude.{Option, Some, None, ◌≡◌, ◌⊎◌, ℕ, ◌<◌, ◌≤◌, List, get_or}
use Rattle.words.specs.Words.{payload, word, SETS}
use Rattle.words.specs.Limits.{START}
use Rattle.gather.specs.declared.Entry.{Entry}
use Rattle.gather.specs.Gathering.{gathered, known, successor_of}
use Rattle.ready.specs.Ready.{Ready}
use Rattle.search.specs.Search.{Answer, To, Result, explored}
use Rattle.search.specs.Search.{None as Nowhere}
use Rattle.records.specs.Records.{most_nodes, record_place}

abbrev pub answer_of : Option ℕ → Answer
answer_of (Some s) = To (word SETS s)
answer_of None = Nowhere

abbrev pub Gives : (ℕ → Option ℕ → Type 0) → ℕ → ℕ → (ℕ → ℕ → Answer) → Type 0
Gives after a w f = (j : ℕ) (s : Option ℕ) → j < a → after j s → f w j ≡ answer_of s

abbrev pub next_of : List Entry → List ℕ → ℕ → ℕ → Answer
next_of es kept w j = answer_of (successor_of (known (get_or kept j 0) j (payload w) es))

abbrev pub start_of : List Entry → Answer
start_of es = answer_of (successor_of (gathered START 0 es))

abbrev pub graph_of : List Entry → List ℕ → ℕ → Result
graph_of es kept a = explored (next_of es kept) a most_nodes (start_of es)

abbrev pub Usable : List ℕ → List ℕ → List Entry → List ℕ → List ℕ → Type 0
Usable kept words es scratch gone = ((i : ℕ) → i < 64 → get_or words i 0 ≡ 0xFFFFFFFF) ⊎ Ready kept words es 8 scratch gone

abbrev pub FewNodes : Option (ℕ × ℕ) → Type 0
FewNodes (Some (n, x)) = n ≤ most_nodes
FewNodes None = Unit {0}

abbrev pub taken_by : ℕ → Option (ℕ × ℕ) → ℕ
taken_by a (Some (n, x)) = record_place a n
taken_by a None = 0
