-- Demand 2 fixes every record: two graphs that are both faithful for a program and a lemma list are equal. The distances are the lengths of paths.
use mathlib.Core.Path.{◌≡◌, refl, sym, ap, ◌∙◌}
use mathlib.Core.Logic.{⊎_elim}
use mathlib.Core.List.{List}
use Prim.Native.Nat.{ℕ, zero, suc, ◌+◌, ◌*◌, ◌/◌, ◌%◌, ◌<◌, ◌≤◌}
use native.Mathlib.Omega.{arith}
use native.Mathlib.Nat.{mod-lt, div-add-mod', div-lt_iff_lt-mul, mul-zero, not-suc-le-zero}
use lib.ListN.{length, get_or}
use lib.Seq.{ext_get_or}
use Rattle.words.specs.Words.{word, SETS}
use Rattle.grammar.specs.Programs.{Program}
use Rattle.lemmas.specs.Lemmas.{Lemma}
use Rattle.words.specs.LiteralSets.{Literal, set_of}
use Rattle.formula.specs.Formula.{Monomial, False, And}
use Rattle.search.specs.Search.{Answer, To, None, Origin, Root, From, Graph, count, origin, distance, distance_by, edge}
use Rattle.search.specs.Paths.{path}
use Rattle.search.proofs.Count.{lt_or_le, eq_or_ne, same_place}
use Rattle.search.proofs.Distances.{Below, distance-low, distance-length}
use Rattle.abstraction.specs.Abstraction.{successor, start}
use Rattle.abstraction.specs.Faithful.{literals_at, Leads, FoundFirst, FoundBefore, Faithful}
use Rattle.abstraction.proofs.Order.{earlier-below, below-earlier}

and_inj : {m n : List Literal} → And m ≡ And n → m ≡ n
and_inj e = cc

module _ (p : Program) (ls : List Lemma) where
  abbrev actions : ℕ
  actions = length p.actions

  -- ---- where a node was found
  record Place (g : Graph) (k : ℕ) : Type 0 where
    parent : ℕ
    action : ℕ
    is : origin g k ≡ From parent action
    first : FoundFirst p ls g k (From parent action)

  place_of : (g : Graph) → Faithful p ls g → (k : ℕ) → 0 < k → k < count g → Place g k
  place_of g f k some h = go (origin g k) refl (f.origins k h)
    where
      go : (o : Origin) → origin g k ≡ o → FoundFirst p ls g k o → Place g k
      go Root e c = absurd (omega (arith, c.0))
      go (From i j) e c = record { parent = i; action = j; is = e; first = c }

  pub root-of : (g : Graph) → Faithful p ls g → 0 < count g → (origin g 0 ≡ Root) × (start p ls ≡ And (literals_at g 0))
  root-of g f h = go (origin g 0) refl (f.origins 0 h)
    where
      go : (o : Origin) → origin g 0 ≡ o → FoundFirst p ls g 0 o → (origin g 0 ≡ Root) × (start p ls ≡ And (literals_at g 0))
      go Root e c = (e, c.1)
      go (From i j) e c = absurd (not-suc-le-zero c.0)

  abbrev number : {g : Graph} {k : ℕ} → Place g k → ℕ
  number q = q.parent * actions + q.action

  -- a place that leads to node k is not before the one where it was first found
  no-earlier : (g : Graph) (k : ℕ) (q : Place g k) (i j : ℕ) → i < count g → j < actions → successor p ls j (literals_at g i) ≡ And (literals_at g k)
      → number q ≤ i * actions + j
  no-earlier g k q i j hi hj e =
      ⊎_elim (λ lt. absurd (q.first.3 i j hi hj e (below-earlier actions i j q.parent q.action q.first.1 lt))) (λ le. le)
      (lt_or_le (i * actions + j) (number q))

  later-found : (g : Graph) → Faithful p ls g → (i k : ℕ) → i < k → k < count g → (q : Place g i) (r : Place g k) → number q < number r
  later-found g f i k l h q r =
      let b : FoundBefore (From q.parent q.action) (From r.parent r.action) = rw (q.is, r.is) at (f.numbered i k l h) in
      earlier-below actions q.parent q.action r.parent r.action q.first.1 b

  -- ---- the same nodes
  abbrev Agree : Graph → Graph → ℕ → Type 0
  Agree g h k = k < count g → (k < count h) × (literals_at h k ≡ literals_at g k)

  -- a place of a node that both have leads to the same in both
  moved : (g h : Graph) (k : ℕ) (q : Place h k) → Agree h g q.parent → q.parent < count h
      → successor p ls q.action (literals_at g q.parent) ≡ And (literals_at h k)
  moved g h k q same b = ap (successor p ls q.action) (same b).1 ∙ q.first.2

  -- where node k of h stands in g: not before k
  not-before : (g h : Graph) → Faithful p ls g → Faithful p ls h → (k : ℕ) → ((i : ℕ) → i < k → Agree g h i) → k < count h
      → (n : ℕ) × (n < count g) × (literals_at g n ≡ literals_at h k) × (k ≤ n)
  not-before g h f e k to b =
      let (n, l, s) = f.all (e.only k b) in
      (n, l, s, ⊎_elim (λ lt. let (c, d) = to n lt l in let z = e.once n k c b (d ∙ s) in omega arith) (λ le. le) (lt_or_le n k))

  -- node k, where all nodes before it agree
  module _ (g h : Graph) (f : Faithful p ls g) (e : Faithful p ls h) (k : ℕ) (to : (i : ℕ) → i < k → Agree g h i) (back : (i : ℕ) → i < k → Agree h g i) (b : k < count g) where
    first-agrees : k ≡ 0 → (k < count h) × (literals_at h k ≡ literals_at g k)
    first-agrees z =
        let (n, l, s) = e.all (f.only k b) in
        let c : 0 < count h = omega arith in
        rw z (c, and_inj (sym (root-of h e c).1 ∙ (root-of g f (rw z at b)).1))

    later_agrees : 0 < k → (k < count h) × (literals_at h k ≡ literals_at g k)
    later_agrees some =
        let (n, l, s, le) = not-before h g e f k back b in
        let c : k < count h = omega arith in
        let (m, l', s', le') = not-before g h f e k to c in
        (c, ⊎_elim (λ z. rw (← z) at s) (λ ne. ⊎_elim (λ z. sym (rw (← z) at s')) (λ ne'. absurd (cross n l s (omega arith) m l' s' (omega arith) c)) (eq_or_ne k m)) (eq_or_ne k n))
      where
        cross : (n : ℕ) → n < count h → literals_at h n ≡ literals_at g k → k < n → (m : ℕ) → m < count g → literals_at g m ≡ literals_at h k → k < m → k < count h → ⊥
        cross n l s lt m l' s' lt' c =
            let q = place_of g f k some b in
            let r = place_of h e k some c in
            let q' = place_of g f m (omega arith) l' in
            let r' = place_of h e n (omega arith) l in
            let hq : q.parent < count g = omega (arith, q.first.0) in
            let hr : r.parent < count h = omega (arith, r.first.0) in
            let x = no-earlier h n r' q.parent q.action (to q.parent q.first.0 hq).0 q.first.1 (moved h g k q (to q.parent q.first.0) hq ∙ ap And (sym s)) in
            let y = no-earlier g m q' r.parent r.action (back r.parent r.first.0 hr).0 r.first.1 (moved g h k r (back r.parent r.first.0) hr ∙ ap And (sym s')) in
            let u = later-found g f k m lt' l' q q' in
            let v = later-found h e k n lt l r r' in
            omega arith

    agrees : (k < count h) × (literals_at h k ≡ literals_at g k)
    agrees = ⊎_elim (λ lt. later_agrees lt) (λ le. first-agrees (omega arith)) (lt_or_le 0 k)

  module _ (g h : Graph) (f : Faithful p ls g) (e : Faithful p ls h) where
    agree-below : (k i : ℕ) → i < k → Agree g h i × Agree h g i
    agree-below zero i l = absurd (not-suc-le-zero l)
    agree-below (suc k) i l =
        let to : (i : ℕ) → i < k → Agree g h i = λ i l. (agree-below k i l).0 in
        let back : (i : ℕ) → i < k → Agree h g i = λ i l. (agree-below k i l).1 in
        ⊎_elim (λ lt. agree-below k i lt) (λ le. let z : i ≡ k = omega arith in rw z (λ b. agrees g h f e k to back b, λ b. agrees h g e f k back to b)) (lt_or_le i k)

    agree : (k : ℕ) → Agree g h k
    agree k = (agree-below (suc k) k (omega arith)).0

    counts : count g ≡ count h
    counts =
        ⊎_elim (λ lt. let b = ((agree-below (suc (count g)) (count g) (omega arith)).1 lt).0 in absurd (omega arith))
        (λ le. ⊎_elim (λ lt. let b = (agree (count h) lt).0 in absurd (omega arith)) (λ ge. omega arith) (lt_or_le (count h) (count g))) (lt_or_le (count g) (count h))

    words_same : g.words ≡ h.words
    words_same =
        ext_get_or 0 g.words h.words counts
        (λ k b. f.words k b ∙ ap (λ (m : List Literal). word SETS (set_of m)) (sym (agree k b).1) ∙ sym (e.words k (agree k b).0))

    -- ---- the same origins
    origin-same : (k : ℕ) → k < count g → origin g k ≡ origin h k
    origin-same k b = ⊎_elim later (λ le. let z : k ≡ 0 = omega arith in rw z ((root-of g f (rw z at b)).0 ∙ sym (root-of h e (rw z at c)).0)) (lt_or_le 0 k)
      where
        c : k < count h
        c = (agree k b).0

        later : 0 < k → origin g k ≡ origin h k
        later some =
            let q = place_of g f k some b in
            let r = place_of h e k some c in
            let hq : q.parent < count g = omega (arith, q.first.0) in
            let hr : r.parent < count h = omega (arith, r.first.0, c) in
            let back = (agree-below k r.parent r.first.0).1 in
            let x = no-earlier h k r q.parent q.action (agree q.parent hq).0 q.first.1 (moved h g k q (agree q.parent) hq ∙ ap And (sym (agree k b).1)) in
            let y = no-earlier g k q r.parent r.action (back hr).0 r.first.1 (moved g h k r back hr ∙ ap And (agree k b).1) in
            let s = same_place actions q.parent q.action r.parent r.action q.first.1 r.first.1 (omega arith) in
            q.is ∙ rw (s.0, s.1) (sym r.is)

    origins-same : g.origins ≡ h.origins
    origins-same = ext_get_or Root g.origins h.origins (f.origin-count ∙ counts ∙ sym e.origin-count) (λ k b. origin-same k (rw f.origin-count at b))

    -- ---- the same distances: those of parents agree, as they come before
    distance-below : (n k : ℕ) → k < n → k < count g → distance g k ≡ distance h k
    distance-below zero k l b = absurd (not-suc-le-zero l)
    distance-below (suc n) k l b =
        f.distances k b ∙ by (origin g k) (f.origins k b) (distance-below n) ∙ ap (distance_by h.distances) (origin-same k b) ∙ sym (e.distances k (agree k b).0)
      where
        by : (o : Origin) → FoundFirst p ls g k o → ((i : ℕ) → i < n → i < count g → distance g i ≡ distance h i) → distance_by g.distances o ≡ distance_by h.distances o
        by Root c before = refl
        by (From i j) c before = ap suc (before i (omega (arith, c.0)) (omega (arith, c.0)))

    distances-same : g.distances ≡ h.distances
    distances-same =
        ext_get_or 0 g.distances h.distances (f.distance-count ∙ counts ∙ sym e.distance-count)
        (λ k b. let here : k < count g = rw f.distance-count at b in distance-below (suc k) k (omega arith) here)

    -- ---- the same edges
    leads-same : (x : Monomial) (c d : Answer) → Leads g x c → Leads h x d → c ≡ d
    leads-same False None None u v = refl
    leads-same (And m) (To i) (To j) u v = ap To (e.once i j (agree i u.0).0 v.0 ((agree i u.0).1 ∙ u.1 ∙ sym v.1))
    leads-same False (To i) d u v = elim u [ ]
    leads-same False None (To j) u v = elim v [ ]
    leads-same (And m) (To i) None u v = elim v [ ]
    leads-same (And m) None d u v = elim u [ ]

    edge_same : (k j : ℕ) → k < count g → j < actions → edge actions g k j ≡ edge actions h k j
    edge_same k j b hj =
        leads-same (successor p ls j (literals_at g k)) (edge actions g k j) (edge actions h k j) (f.edges k j b hj)
        (rw (sym (agree k b).1) (e.edges k j (agree k b).0 hj))

    edges-same : g.edges ≡ h.edges
    edges-same =
        ext_get_or None g.edges h.edges (f.edge_count ∙ ap (λ (n : ℕ). n * actions) counts ∙ sym e.edge_count)
        (λ x b. at x (rw f.edge_count at b))
      where
        at : (x : ℕ) → x < count g * actions → get_or g.edges x None ≡ get_or h.edges x None
        at x b =
            ⊎_elim (λ some. let s = edge_same (x / actions) (x % actions) ((div-lt_iff_lt-mul some).1 b) (mod-lt x some) in rw div-add-mod' at s)
            (λ le. let z : actions ≡ 0 = omega arith in absurd (not-suc-le-zero (rw (z, mul-zero) at b))) (lt_or_le 0 actions)

pub faithful_unique : (p : Program) (ls : List Lemma) (g h : Graph) → Faithful p ls g → Faithful p ls h → g ≡ h
faithful_unique p ls g h f e = λ i. record {
  words = words_same p ls g h f e i;
  origins = origins-same p ls g h f e i;
  distances = distances-same p ls g h f e i;
  edges = edges-same p ls g h f e i;
}

-- ---- a node's distance is at most its number, and the length of the path to it
module _ (p : Program) (ls : List Lemma) (g : Graph) (f : Faithful p ls g) where
  older : (k : ℕ) → k < count g → Below k (origin g k)
  older k h = go (origin g k) (f.origins k h)
    where
      go : (o : Origin) → FoundFirst p ls g k o → Below k o
      go Root c = tt
      go (From i j) c = c.0

  pub distance-number : (k : ℕ) → k < count g → distance g k ≤ k
  distance-number = distance-low g (f.distance-count, f.distances) older

  pub distance-path : (n k : ℕ) → k ≤ n → k < count g → length (path g.origins n k) ≡ distance g k
  distance-path = distance-length g (f.distance-count, f.distances) older
