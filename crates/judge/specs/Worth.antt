-- What Judge's answer, with what it leaves in the two lent lists, is worth.
--
-- OfList, OfRead — a claim about the program and the lemmas that two lists of words are
-- Drawn          — a list holds the records of a graph that is formula (3)'s, with these counts; 512 nodes are enough
-- Walked         — a list holds the steps of a walk in a graph from node 0 to a node, as many as its distance
-- GraphLeft, PathLeft — the first, of the words that were read; both
-- Demand2Of      — of an answer: a verdict leaves the graph with its counts, and a finding the walk to its node; refusal 7 says that too many are reachable
-- SafeOf         — demand 3, of the program that the words are
use Rattle.std.specs.Prelude.{◌≡◌, List, ℕ, ◌≤◌, length, Result, Ok, Err}
use Rattle.words.specs.declared.Refusal.{Refusal}
use Rattle.words.specs.declared.Refusal.TheVariants.{Nodes}
use Rattle.grammar.specs.Reading.{Read, got, refused}
use Rattle.grammar.specs.Programs.{Program}
use Rattle.programs.specs.Calls.{read}
use Rattle.runs.specs.Runs.{Safe}
use Rattle.lemmas.specs.Lemmas.{Lemma}
use Rattle.lemmas.specs.LemmaGrammar.{read_lemmas}
use Rattle.search.specs.Search.{Graph, Done, count, distance, links}
use Rattle.search.specs.Paths.{Walk}
use Rattle.records.specs.Records.{most_nodes, graph_list}
use Rattle.abstraction.specs.Faithful.{Faithful, TooMany}
use Rattle.verdict.specs.Verdicts.{path_list}
use Rattle.judge.specs.declared.Judged.{Judged}
use Rattle.judge.specs.declared.Judged.TheVariants.{MayForbid, MayRunOff}
use Rattle.judge.specs.declared.Judged.TheVariants.{Safe as IsSafe}

-- false of words that are no program or no lemma list
abbrev pub OfList : (List Lemma → Type 0) → Read (List Lemma) → Type 0
OfList P (got ls ws i) = P ls
OfList P (refused r) = ⊥

abbrev pub OfRead : (Program → List Lemma → Type 0) → Read Program → List ℕ → Type 0
OfRead P (got p ws i) lemmas = OfList (P p) (read_lemmas p lemmas)
OfRead P (refused r) lemmas = ⊥

-- the list was `before` and is `after`
pub record Drawn (p : Program) (ls : List Lemma) (g : Graph) (nodes edges : ℕ) (before after : List ℕ) : Type 0 where
  pub faithful : Faithful p ls g
  pub enough : TooMany p ls → ⊥
  pub few : count g ≤ most_nodes
  pub nodes_are : nodes ≡ count g
  pub edges_are : edges ≡ links g
  pub records : after ≡ graph_list (length p.actions) (Done g) before

pub record Walked (p : Program) (g : Graph) (node : ℕ) (before after : List ℕ) : Type 0 where
  pub steps : List ℕ
  pub walk : Walk (length p.actions) g 0 steps node
  pub long : length steps ≡ distance g node
  pub words : after ≡ path_list steps before

abbrev pub GraphLeft : List ℕ → List ℕ → ℕ → ℕ → List ℕ → List ℕ → Type 0
GraphLeft ws lemmas nodes edges gl gl' = OfRead (λ p ls. (g : Graph) × Drawn p ls g nodes edges gl gl') (read ws) lemmas

abbrev pub PathLeft : List ℕ → List ℕ → ℕ → ℕ → ℕ → List ℕ → List ℕ → List ℕ → List ℕ → Type 0
PathLeft ws lemmas node nodes edges gl gl' pl pl' =
    OfRead (λ p ls. (g : Graph) × Drawn p ls g nodes edges gl gl' × Walked p g node pl pl') (read ws) lemmas

-- the answer, then the graph list and the path list, each at entry and at exit
abbrev pub Demand2Of : List ℕ → List ℕ → Result Judged Refusal → List ℕ → List ℕ → List ℕ → List ℕ → Type 0
Demand2Of ws lemmas (Ok (IsSafe n e)) gl gl' pl pl' = GraphLeft ws lemmas n e gl gl'
Demand2Of ws lemmas (Ok (MayForbid k b n e)) gl gl' pl pl' = PathLeft ws lemmas k n e gl gl' pl pl'
Demand2Of ws lemmas (Ok (MayRunOff k j v high n e)) gl gl' pl pl' = PathLeft ws lemmas k n e gl gl' pl pl'
Demand2Of ws lemmas (Err r) gl gl' pl pl' = r ≡ Nodes → OfRead TooMany (read ws) lemmas

abbrev pub SafeOf : Read Program → Type 0
SafeOf (got p ws i) = Safe p
SafeOf (refused r) = ⊥
