-- The count of edges in a verdict is the number of EDGE words that name a successor, among the first 9,728 words of the graph list.
use mathlib.Core.Path.{◌≡◌, refl, sym, ap, ◌∙◌}
use mathlib.Core.Bool.{false}
use mathlib.Core.List.{List, [], ◌∷◌, ◌++◌, append_assoc}
use Prim.Native.Nat.{ℕ, ◌+◌, ◌-◌, ◌*◌, ◌^◌, ◌<◌, ◌≤◌}
use native.Mathlib.Omega.{arith}
use native.Mathlib.Nat.{mul-add-mod_self_right, mod-eq_of_lt}
use lib.ListN.{length, take, drop, replicate, length-append, length-replicate}
use lib.Seq.{take_at}
use borrow.Author.Tests.{ne_eqb}
use Rattle.words.specs.Words.{payload, word, DISTANCE, SETS, ORIGIN, EDGE, no_node}
use Rattle.words.specs.LiteralSets.{set_of}
use Rattle.words.proofs.Laws.{kind_word}
use Rattle.grammar.specs.Programs.{Program}
use Rattle.grammar.specs.WellFormed.{WellFormed}
use Rattle.lemmas.specs.Lemmas.{Lemma}
use Rattle.formula.specs.Formula.{Monomial, False, And}
use Rattle.search.specs.Search.{Answer, To, None, Origin, Root, From, Graph, count, node_word, origin, distance, edge}
use Rattle.records.specs.Records.{origin_word, distance_word, edge_word, most_nodes, graph_words, record_place, records_of}
use Rattle.records.specs.Naming.{names, naming}
use Rattle.records.proofs.Stores.{leads}
use Rattle.records.proofs.Places.{most}
use Rattle.records.proofs.Listed.{records-length}
use Rattle.records.proofs.Naming.{Plain, edges-named}
use Rattle.abstraction.specs.Abstraction.{successor}
use Rattle.abstraction.specs.Faithful.{literals_at, Leads, FoundFirst, Faithful}
use Rattle.abstraction.proofs.Literals.{set-literals}
use Rattle.abstraction.proofs.Unique.{distance-number}
use Rattle.judge.specs.Worth.{Drawn}

-- a word of another kind names none
other_kind : (k p : ℕ) → p < 2 ^ 28 → (k ≡ EDGE → ⊥) → names (word k p) ≡ false
other_kind k p h n = rw (kind_word k p h, ne_eqb k EDGE n) refl

edge-names : (m : ℕ) → m < most_nodes → naming (edge_word (To m) ∷ []) ≡ 1
unfolding naming
edge-names m h =
    let e : payload (word EDGE m) ≡ m = mul-add-mod_self_right EDGE (2 ^ 28) m ∙ mod-eq_of_lt (omega arith) in
    rw (kind_word EDGE m (omega arith), e, ne_eqb m no_node (λ z. omega arith)) refl

module _ (p : Program) (ok : WellFormed p) (ls : List Lemma) (g : Graph) (f : Faithful p ls g) (few : count g ≤ most_nodes) where
  node-plain : (k : ℕ) → k < count g → names (node_word g k) ≡ false
  node-plain k h =
      let small : set_of (literals_at g k) < 2 ^ 28 = omega (arith, set-literals (payload (node_word g k))) in
      rw (f.words k h) (other_kind SETS (set_of (literals_at g k)) small (λ z. omega arith))

  origin-plain : (k : ℕ) → k < count g → names (origin_word (origin g k)) ≡ false
  origin-plain k h = go (origin g k) (f.origins k h)
    where
      go : (o : Origin) → FoundFirst p ls g k o → names (origin_word o) ≡ false
      go Root c = refl
      go (From i j) c = other_kind ORIGIN (i * 16 + j) (omega (arith, c.0, c.1, ok.actions.few)) (λ z. omega arith)

  distance-plain : (k : ℕ) → k < count g → names (distance_word (distance g k)) ≡ false
  distance-plain k h = other_kind DISTANCE (distance g k) (omega (arith, distance-number p ls g f k h)) (λ z. omega arith)

  edge-plain : (k j : ℕ) → k < count g → j < length p.actions → naming (edge_word (edge (length p.actions) g k j) ∷ []) ≡ leads (edge (length p.actions) g k j)
  unfolding naming
  edge-plain k j h l = go (successor p ls j (literals_at g k)) (edge (length p.actions) g k j) (f.edges k j h l)
    where
      go : (x : Monomial) (e : Answer) → Leads g x e → naming (edge_word e ∷ []) ≡ leads e
      go False None c = refl
      go (And m) (To n) c = edge-names n (omega (arith, c.0))
      go False (To n) c = elim c [ ]
      go (And m) None c = elim c [ ]

  plain : Plain (length p.actions) g
  plain = record { nodes = node-plain; origins = origin-plain; distances = distance-plain; edges = edge-plain; wide = f.edge_count }

pub edges-counted : (p : Program) → WellFormed p → (ls : List Lemma) (g : Graph) (nodes edges : ℕ) (before after : List ℕ) → Drawn p ls g nodes edges before after
    → naming (take graph_words after) ≡ edges
edges-counted p ok ls g nodes edges before after d =
    let a = length p.actions in
    let zeros = graph_words - record_place a (count g) in
    let front = records_of a g (count g) ++ replicate zeros 0 in
    let room : record_place a (count g) ≤ graph_words = most (count g) a d.few ok.actions.few in
    let long : length front ≡ graph_words = length-append (records_of a g (count g)) (replicate zeros 0) ∙ omega (arith, records-length a g (count g), length-replicate {A = ℕ} zeros 0) in
    ap (λ (l : List ℕ). naming (take graph_words l)) (d.records ∙ sym (append_assoc (records_of a g (count g)) (replicate zeros 0) (drop graph_words before)))
    ∙ ap naming (take_at front (drop graph_words before) graph_words long) ∙ edges-named a g (plain p ok ls g d.faithful d.few) zeros ∙ sym d.edges_are
