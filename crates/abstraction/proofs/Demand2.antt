-- Demand 2: the graph of a lemma list is the one that formula (3) describes.
use mathlib.Core.Path.{◌≡◌, refl, sym, ap, ◌∙◌}
use mathlib.Core.List.{List, [], map}
use Prim.Native.Nat.{ℕ, suc, ◌<◌}
use native.Mathlib.Omega.{arith}
use lib.ListN.{length, get_or, length-map}
use Rattle.integers.proofs.Fill.{get_d_mapped}
use Rattle.words.specs.Words.{payload}
use Rattle.grammar.specs.Programs.{Program}
use Rattle.grammar.specs.WellFormed.{Each, WellFormed}
use Rattle.lemmas.specs.Lemmas.{Lemma}
use Rattle.lemmas.specs.LemmaGrammar.{LemmaOk}
use Rattle.words.specs.LiteralSets.{Literal}
use Rattle.formula.specs.Formula.{Monomial, False, And}
use Rattle.search.specs.Search.{Answer, To, None, Origin, Root, From, Graph, Result, Done, Over, seek, count, node_word, origin, edge}
use Rattle.search.proofs.Reach.{Distinct, AllOf, Many}
use Rattle.search.proofs.Count.{seek_found}
use Rattle.search.proofs.Numbered.{Earlier as EarlierBy}
use Rattle.search.proofs.Sound.{Comes}
use Rattle.search.proofs.Sound.{Leads as LeadsBy}
use Rattle.search.proofs.Theorem.{to_inj, not_none, Whole, whole, over}
use Rattle.records.specs.Records.{most_nodes}
use Rattle.abstraction.specs.Abstraction.{successor, start, answer, graph}
use Rattle.abstraction.specs.Faithful.{ReachableIn, literals_at, Leads, FoundFirst, FoundBefore, Faithful, TooMany, Demand2}
use Rattle.abstraction.proofs.Order.{earlier-below, below-earlier}
use Rattle.abstraction.proofs.Reached.{state_of, word_of, ReachIn, successor-back, start_back, and-literals, has_word, has-literals}

module _ (p : Program) (ok : WellFormed p) (ls : List Lemma) (good : Each (LemmaOk p) ls) where
  abbrev actions : ℕ
  actions = length p.actions

  abbrev next : ℕ → ℕ → Answer
  next w j = answer (successor p ls j (state_of w))

  abbrev begin : Answer
  begin = answer (start p ls)

  module _ (g : Graph) (v : Whole begin next actions most_nodes g) where
    -- ---- nodes
    words : (k : ℕ) → k < count g → node_word g k ≡ word_of (literals_at g k)
    words k h = (has-literals p ok ls good (v.stored-reached k h)).1

    only : (k : ℕ) → k < count g → ReachableIn p ls (literals_at g k)
    only k h = (has-literals p ok ls good (v.stored-reached k h)).0

    all : {m : List Literal} → ReachableIn p ls m → (k : ℕ) × (k < count g) × (literals_at g k ≡ m)
    all {m} r =
        let (reach, back) = has_word p ok ls good r in
        let b = v.reached-stored reach in
        (seek (word_of m) g.words, b, ap state_of (seek_found (word_of m) g.words b) ∙ back)

    once : (i k : ℕ) → i < count g → k < count g → literals_at g i ≡ literals_at g k → i ≡ k
    once i k hi hk e = v.stored-once i k hi hk (words i hi ∙ ap word_of e ∙ sym (words k hk))

    -- ---- edges
    leads-as : (k j : ℕ) (x : Monomial) (e : Answer) → successor p ls j (literals_at g k) ≡ x → LeadsBy next g.words k j e → Leads g x e
    leads-as k j False (To n) s l = not_none (sym l.1 ∙ ap answer s)
    leads-as k j False None s l = tt
    leads-as k j (And m) (To n) s l =
        (l.0, ap state_of (to_inj (sym l.1 ∙ ap answer s)) ∙ successor-back p ok ls good j (payload (node_word g k)) m s)
    leads-as k j (And m) None s l = not_none (sym (ap answer s) ∙ l)

    edges : (k j : ℕ) → k < count g → j < actions → Leads g (successor p ls j (literals_at g k)) (edge actions g k j)
    edges k j hk hj = leads-as k j (successor p ls j (literals_at g k)) (edge actions g k j) refl (v.leads k j hk hj)

    -- ---- origins
    found : (n : ℕ) (o : Origin) → n < count g → Comes begin next actions g.words n o → FoundFirst p ls g n o
    found n Root h c = (c.0, (and-literals (start p ls) (node_word g n) (start_back p ok ls good) c.1).0)
    found n (From i j) h c = (
      c.0,
      c.1,
      (and-literals (successor p ls j (literals_at g i)) (node_word g n) (successor-back p ok ls good j (payload (node_word g i))) c.2).0,
      λ k l hk hl s lt. c.3 k l hl (earlier-below actions k l i j hl lt) (ap answer s ∙ ap To (sym (words n h))),
    )

    -- ---- the order of finding
    before : (n : ℕ) (o q : Origin) → Comes begin next actions g.words n q → EarlierBy actions o q → FoundBefore o q
    before n Root (From k l) c e = tt
    before n (From i j) (From k l) c e = below-earlier actions i j k l c.1 e
    before n Root Root c e = elim e [ ]
    before n (From i j) Root c e = elim e [ ]

    faithful : Faithful p ls g
    faithful = record {
      words = words;
      only = only;
      all = all;
      once = once;
      edges = edges;
      origins = λ k h. found k (origin g k) h (v.comes k h);
      distances = v.measured.1;
      numbered = λ i k l h. before k (origin g i) (origin g k) (v.comes k h) (v.later i k l h);
      origin-count = v.origins-count;
      distance-count = v.measured.0;
      edge_count = v.edges-count;
    }

  -- ---- 512 nodes are enough, or there are too many
  module _ (t : TooMany p ls) where
    word_at : (k : ℕ) → k < length (map word_of t.states) → (k < length t.states) × (get_or (map word_of t.states) k 0 ≡ word_of (get_or t.states k []))
    word_at k h =
        let b : k < length t.states = omega (arith, length-map t.states word_of) in
        (b, get_d_mapped word_of t.states k [] 0 b)

    words-reached : AllOf (ReachIn p ls) (map word_of t.states)
    words-reached k h = let (b, e) = word_at k h in rw e (has_word p ok ls good (t.reached k b)).0

    words-distinct : Distinct (map word_of t.states)
    words-distinct i k hi hk e =
        let (bi, ei) = word_at i hi in
        let (bk, ek) = word_at k hk in
        t.distinct i k bi bk (sym (has_word p ok ls good (t.reached i bi)).1 ∙ ap state_of (sym ei ∙ e ∙ ek) ∙ (has_word p ok ls good (t.reached k bk)).1)

    not-too-many : (g : Graph) → Whole begin next actions most_nodes g → ⊥
    not-too-many g v =
        let few = v.at_most (map word_of t.states) words-distinct words-reached in
        omega (arith, t.more, length-map t.states word_of)

  module _ (m : Many (ReachIn p ls) (suc most_nodes)) where
    state-at : (k : ℕ) → k < length (map state_of m.list) → (k < length m.list) × (get_or (map state_of m.list) k [] ≡ state_of (get_or m.list k 0))
    state-at k h =
        let b : k < length m.list = omega (arith, length-map m.list state_of) in
        (b, get_d_mapped state_of m.list k 0 [] b)

    too_many : TooMany p ls
    too_many = record {
      states = map state_of m.list;
      more = omega (arith, m.size, length-map m.list state_of);
      reached = λ k h. let (b, e) = state-at k h in rw e (has-literals p ok ls good (m.all k b)).0;
      distinct = λ i k hi hk e.
          let (bi, ei) = state-at i hi in
          let (bk, ek) = state-at k hk in
          m.distinct i k bi bk ((has-literals p ok ls good (m.all i bi)).1 ∙ ap word_of (sym ei ∙ e ∙ ek) ∙ sym (has-literals p ok ls good (m.all k bk)).1);
    }

  demanded : (r : Result) → graph p ls ≡ r → Demand2 p ls r
  demanded (Done g) e = let v = whole begin next actions most_nodes g e in (faithful g v, λ t. not-too-many t g v)
  demanded Over e = too_many (over begin next actions most_nodes e)

pub demand2 : (p : Program) → WellFormed p → (ls : List Lemma) → Each (LemmaOk p) ls → Demand2 p ls (graph p ls)
demand2 p ok ls good = demanded p ok ls good (graph p ls) refl
