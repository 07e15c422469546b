-- Request 7: no walk in the graph from node 0 to any node with a finding has fewer steps than the path in the verdict.
--
-- walk_end — the node to which a list of actions leads from node k along the EDGE words of a graph list; none where one names no successor, or an
--              action is not below a
-- Least      — no walk in a graph from node 0 to a node with a finding, one of those that request 2 lists, has fewer than n steps
-- Unbeaten   — of a graph list and a path list: no such walk along the EDGE words has fewer steps than there are STEP words
-- SafeBefore — every run from a start state that makes fewer than n moves is safe
-- Shortest   — all three, of the graph that formula (3) describes and of as many steps as there are STEP words
-- ShortestOf — of an answer: where it is a finding, with both lists at exit
use Rattle.std.specs.Prelude.{◌≡◌, cond, ◌&&◌, List, [], ◌∷◌, ℕ, ◌≤◌, ◌<◌, ltb, ℤ, length, get_or, Result, Ok, Err}
use Rattle.words.specs.declared.Refusal.{Refusal}
use Rattle.words.specs.Words.{payload}
use Rattle.grammar.specs.Programs.{Program}
use Rattle.grammar.specs.WellFormed.{Each}
use Rattle.programs.specs.Calls.{read}
use Rattle.runs.specs.Runs.{Start, run, SafeRun}
use Rattle.lemmas.specs.Lemmas.{Lemma}
use Rattle.search.specs.Search.{Answer, To, None, Graph}
use Rattle.search.specs.Paths.{Walk}
use Rattle.records.specs.Records.{edge_place}
use Rattle.records.specs.Naming.{names}
use Rattle.abstraction.specs.Faithful.{Faithful}
use Rattle.verdict.specs.Verdicts.{node_of, steps_in}
use Rattle.verdict.specs.declared.Finding.{Finding}
use Rattle.sheet.specs.Sheets.{Due}
use Rattle.judge.specs.Worth.{OfRead}
use Rattle.judge.specs.declared.Judged.{Judged}
use Rattle.judge.specs.declared.Judged.TheVariants.{MayForbid, MayRunOff}
use Rattle.judge.specs.declared.Judged.TheVariants.{Safe as IsSafe}

unfoldable pub walk_end : ℕ → List ℕ → ℕ → List ℕ → Answer
walk_end a gl k [] = To k
walk_end a gl k (j ∷ js) = let w = get_or gl (edge_place a k j) 0 in cond (ltb j a && names w) (walk_end a gl (payload w) js) None

abbrev pub Least : Program → List Lemma → Graph → ℕ → Type 0
Least p ls g n = (f : Finding) → Due p ls g f → (js : List ℕ) → Walk (length p.actions) g 0 js (node_of f) → n ≤ length js

abbrev pub Unbeaten : Program → List Lemma → Graph → List ℕ → List ℕ → Type 0
Unbeaten p ls g gl pl =
    (f : Finding) → Due p ls g f → (js : List ℕ) → walk_end (length p.actions) gl 0 js ≡ To (node_of f) → length (steps_in pl) ≤ length js

-- so in the show itself nothing goes wrong before n moves
abbrev pub SafeBefore : Program → ℕ → Type 0
SafeBefore p n = (s : List ℤ) → Start p s → (ks : List ℕ) → Each (λ k. k < length p.actions) ks → (run p ks s).moves < n → SafeRun p (run p ks s)

abbrev pub Shortest : List ℕ → List ℕ → Program → List Lemma → Type 0
Shortest gl pl p ls =
    (g : Graph) × Faithful p ls g × Least p ls g (length (steps_in pl)) × Unbeaten p ls g gl pl × SafeBefore p (length (steps_in pl))

abbrev pub ShortestOf : List ℕ → List ℕ → Result Judged Refusal → List ℕ → List ℕ → Type 0
ShortestOf ws lemmas (Ok (IsSafe n e)) gl pl = Unit {0}
ShortestOf ws lemmas (Ok (MayForbid k b n e)) gl pl = OfRead (Shortest gl pl) (read ws) lemmas
ShortestOf ws lemmas (Ok (MayRunOff k j v high n e)) gl pl = OfRead (Shortest gl pl) (read ws) lemmas
ShortestOf ws lemmas (Err r) gl pl = Unit {0}
