-- Demand 2: the graph is the one that formula (3) describes.
--
-- ReachableIn — reachable by formula (3), read with the lemma list
-- literals_at — the literals of node k
-- Leads       — an edge is what formula (3) gives: none for false, else the node of those literals
-- Earlier     — node i and action j come before node k and action l, in number order
-- FoundFirst  — an origin is the first place, in number order, from which its node is found
-- FoundBefore — an origin comes before another; node 0's before every other
-- Faithful    — of a whole graph; there is only one for a program and a lemma list (proofs/Unique)
-- TooMany     — more than 512 distinct abstract states are reachable
-- Demand2     — of what the exploration gives
use Rattle.std.specs.Prelude.{◌≡◌, ◌⊎◌, List, [], ℕ, ◌*◌, ◌<◌, length, get_or}
use Rattle.words.specs.Words.{payload, word, SETS}
use Rattle.grammar.specs.Programs.{Program}
use Rattle.lemmas.specs.Lemmas.{Lemma}
use Rattle.words.specs.LiteralSets.{Literal, literals_in, set_of}
use Rattle.formula.specs.Formula.{Monomial, False, And, Reachable}
use Rattle.search.specs.Search.{Answer, To, None, Origin, Root, From, Graph, Result, Done, Over, count, node_word, origin, distance, distance_by, edge}
use Rattle.records.specs.Records.{most_nodes}
use Rattle.abstraction.specs.Abstraction.{successor, start}

abbrev pub ReachableIn : Program → List Lemma → List Literal → Type 0
ReachableIn p ls m = Reachable (start p ls) (successor p ls) (length p.actions) m

abbrev pub literals_at : Graph → ℕ → List Literal
literals_at g k = literals_in 14 (payload (node_word g k))

abbrev pub Leads : Graph → Monomial → Answer → Type 0
Leads g False (To n) = ⊥
Leads g False None = Unit {0}
Leads g (And m) (To n) = (n < count g) × (literals_at g n ≡ m)
Leads g (And m) None = ⊥

abbrev pub Earlier : ℕ → ℕ → ℕ → ℕ → Type 0
Earlier i j k l = (i < k) ⊎ ((i ≡ k) × (j < l))

-- n is the node
abbrev pub FoundFirst : Program → List Lemma → Graph → ℕ → Origin → Type 0
FoundFirst p ls g n Root = (n ≡ 0) × (start p ls ≡ And (literals_at g n))
FoundFirst p ls g n (From i j) =
    (i < n) × (j < length p.actions) × (successor p ls j (literals_at g i) ≡ And (literals_at g n))
    × ((k l : ℕ) → k < count g → l < length p.actions → successor p ls l (literals_at g k) ≡ And (literals_at g n) → Earlier k l i j → ⊥)

abbrev pub FoundBefore : Origin → Origin → Type 0
FoundBefore Root Root = ⊥
FoundBefore Root (From k l) = Unit {0}
FoundBefore (From i j) Root = ⊥
FoundBefore (From i j) (From k l) = Earlier i j k l

pub record Faithful (p : Program) (ls : List Lemma) (g : Graph) : Type 0 where
  pub words : (k : ℕ) → k < count g → node_word g k ≡ word SETS (set_of (literals_at g k))
  pub only : (k : ℕ) → k < count g → ReachableIn p ls (literals_at g k)
  pub all : {m : List Literal} → ReachableIn p ls m → (k : ℕ) × (k < count g) × (literals_at g k ≡ m)
  pub once : (i k : ℕ) → i < count g → k < count g → literals_at g i ≡ literals_at g k → i ≡ k
  pub edges : (k j : ℕ) → k < count g → j < length p.actions → Leads g (successor p ls j (literals_at g k)) (edge (length p.actions) g k j)
  pub origins : (k : ℕ) → k < count g → FoundFirst p ls g k (origin g k)
  pub distances : (k : ℕ) → k < count g → distance g k ≡ distance_by g.distances (origin g k)
  pub numbered : (i k : ℕ) → i < k → k < count g → FoundBefore (origin g i) (origin g k)
  pub origin-count : length g.origins ≡ count g
  pub distance-count : length g.distances ≡ count g
  pub edge_count : length g.edges ≡ count g * length p.actions

pub record TooMany (p : Program) (ls : List Lemma) : Type 0 where
  pub states : List (List Literal)
  pub more : most_nodes < length states
  pub reached : (k : ℕ) → k < length states → ReachableIn p ls (get_or states k [])
  pub distinct : (i k : ℕ) → i < length states → k < length states → get_or states i [] ≡ get_or states k [] → i ≡ k

-- a graph, or a 513th node is needed: exactly if more than 512 are reachable
abbrev pub Demand2 : Program → List Lemma → Result → Type 0
Demand2 p ls (Done g) = Faithful p ls g × (TooMany p ls → ⊥)
Demand2 p ls Over = TooMany p ls
