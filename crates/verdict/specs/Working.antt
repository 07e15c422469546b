-- What the functions of the judge give, and what they work on. Only contracts of functions within the project cite these.
--
-- hop_if, back_at              — the actions from node 0 to node k as the origin words give them, the last one first; the third argument is fuel
-- Earlier, Traced              — an origin names an earlier node and one of a actions; so does each of a graph of at most 512 nodes
-- ends_to, ends_of, asked_ends — the places of both ends of each variable that is marked, below v; of each that an action sets; for each action of a program
-- found_of                     — the first of some findings
-- Within                       — the node of what is found is below n
-- first_free                   — the first combination that no literal of a set contradicts
-- end_at, first_unshown        — what the place of a missing end says; what is found at node k of the actions from j on
-- Judging                      — what the judge works on belongs to a program, a lemma list and their graph
-- SetsFrom, Clean              — of the 64 nodes from node k on: their sets; a bit for some with nothing to find
use Rattle.std.specs.Option.{is_some}
use Rattle.std.specs.Prelude.{◌≡◌, Bool, true, false, cond, not, Option, None, Some, List, [], ◌∷◌, length, get_or, position, replicate}
use Rattle.std.specs.Prelude.{ℕ, zero, suc, ◌+◌, ◌/◌, ◌%◌, ◌<◌, ◌≤◌, eqb, ltb}
use Rattle.std.proofs.lemmas.List.Edits.{sets}
use Rattle.words.specs.Words.{payload, no_literals}
use Rattle.words.specs.declared.Literals.{Literals}
use Rattle.grammar.specs.Programs.{Action, Program}
use Rattle.grammar.specs.WellFormed.{WellFormed}
use Rattle.actions.specs.Results.{variables_set, none_set}
use Rattle.programs.specs.Images.{table_of}
use Rattle.lemmas.specs.Lemmas.{Goal, goal_number, Lemma}
use Rattle.sets.specs.Sets.{Member, clashes, pairs_to}
use Rattle.gather.specs.Gathering.{Placed, place_of, known, successor_of, first_missing}
use Rattle.suspects.specs.Suspects.{Small}
use Rattle.search.specs.Search.{Origin, Root, From, Graph, Done, count, origin}
use Rattle.records.specs.Records.{origin_word, most_nodes, record_place, graph_list}
use Rattle.records.specs.Steps.{origin_at}
use Rattle.words.specs.LiteralSets.{literals_in, has}
use Rattle.abstraction.specs.Abstraction.{applies, successor}
use Rattle.verdict.specs.Verdicts.{has_next, findings_at, node_of}
use Rattle.verdict.specs.declared.cases.Case.{Case}
use Rattle.verdict.specs.declared.Finding.{Finding}
use Rattle.verdict.specs.declared.Finding.TheVariants.{RunOff}

-- ---- the path
-- the test: is it the origin of node 0
abbrev pub hop_if : Bool → ℕ → (ℕ → List ℕ) → List ℕ
hop_if true o rest = []
hop_if false o rest = o % 16 ∷ rest (o / 16 % most_nodes)

unfoldable pub back_at : List ℕ → ℕ → ℕ → ℕ → List ℕ
back_at l a zero k = []
back_at l a (suc f) k = hop_if (eqb (origin_at l a k) (origin_word Root)) (origin_at l a k) (back_at l a f)

abbrev pub Earlier : ℕ → ℕ → Origin → Type 0
Earlier a k Root = Unit {0}
Earlier a k (From p j) = (p < k) × (j < a)

pub record Traced (a : ℕ) (g : Graph) : Type 0 where
  pub few : count g ≤ most_nodes
  pub earlier : (k : ℕ) → k < count g → Earlier a k (origin g k)

-- ---- the ends that are asked for
abbrev pub ends_to : List Bool → ℕ → ℕ
ends_to marks v = pairs_to (place_of 3) (place_of 4) (λ u. get_or marks u false) v

abbrev pub ends_of : Action → ℕ
ends_of a = ends_to (variables_set none_set a.sets) 8

-- 0 past the last action
abbrev pub asked_ends : Program → List ℕ
asked_ends p = table_of ends_of p

-- ---- findings
abbrev pub found_of : List Finding → Option Finding
found_of [] = None
found_of (f ∷ fs) = Some f

abbrev pub Within : ℕ → Option Finding → Type 0
Within n None = Unit {0}
Within n (Some f) = node_of f < n

abbrev pub first_free : ℕ → List Literals → Option ℕ
first_free set cs = position (λ c. not (clashes c.0 set)) cs

-- variable v has the places 28 + 2v and 29 + 2v
abbrev pub end_at : ℕ → ℕ → ℕ → Option Finding → Option Finding
end_at k j place other = cond (ltb place 64) (Some (RunOff k j (place / 2 % 14) (eqb (place % 2) 1))) other

-- n actions from j on, of those that have a successor
unfoldable pub first_unshown : List ℕ → List ℕ → ℕ → ℕ → ℕ → Option Finding
first_unshown asked shown k j zero = None
first_unshown asked shown k j (suc n) =
    cond (is_some (successor_of (get_or shown j 0))) (end_at k j (first_missing (get_or asked j 0) (get_or shown j 0)) (first_unshown asked shown k (suc j) n))
    (first_unshown asked shown k (suc j) n)

-- ---- what is judged
pub record Judging (p : Program) (ls : List Lemma) (g : Graph) (c : Case) : Type 0 where
  pub good : WellFormed p
  pub combinations : c.image.now.literals ≡ sets (replicate 8 no_literals) 0 p.forbidden
  pub forbidden-count : c.image.now.forbidden ≡ length p.forbidden
  pub action-count : c.image.now.actions ≡ length p.actions
  pub ends : c.asked ≡ asked_ends p
  pub size : c.nodes ≡ count g
  pub listed : (l₀ : List ℕ) × (c.records.list.now ≡ graph_list c.records.actions (Done g) l₀)
  pub applying : (source set : ℕ) (goal : Goal) (index : ℕ) → Placed (goal_number goal) index → 28 ≤ place_of (goal_number goal) index
      → has (place_of (goal_number goal) index) (known (get_or c.kept.now source 0) source set c.entries.now)
      ≡ applies p ls source (literals_in 14 set) goal index
  pub leading : (source set : ℕ)
      → is_some (successor_of (known (get_or c.kept.now source 0) source set c.entries.now)) ≡ has_next (successor p ls source (literals_in 14 set))

-- ---- blocks of 64 nodes
-- the sets of the nodes from k on, as far as there are nodes, of the first m places
pub record SetsFrom (c : Case) (k m : ℕ) (w : List ℕ) : Type 0 where
  pub long : length w ≡ 64
  pub small : Small w
  pub same : (i : ℕ) → i < m → k + i < c.nodes → get_or w i 0 ≡ payload (get_or c.records.list.now (record_place c.records.actions (k + i)) 0)

-- at the nodes with a bit, of those from k on, there is nothing to find
abbrev pub Clean : Case → ℕ → ℕ → Type 0
Clean c k r =
    (p : Program) (ls : List Lemma) (g : Graph) → Judging p ls g c
    → (i : ℕ) → i < 64 → k + i < c.nodes → Member i r → None ≡ found_of (findings_at p ls g (k + i))
