-- What holds of the graph after every action's turn, and that each turn keeps it.
use Prim.Native.Nat.{ℕ, zero, suc, ◌+◌, ◌*◌, ◌<◌, ◌≤◌, min}
use native.Mathlib.Omega.{arith}
use native.Mathlib.Nat.{suc-mul, zero-mul, not-suc-le-zero, min-eq_left, min-eq_right, add-zero}
use mathlib.Core.Path.{◌≡◌, refl, sym, ◌∙◌}
use mathlib.Core.Bool.{Bool, true, false}
use mathlib.Core.Logic.{⊎_elim}
use mathlib.Core.List.{List, [], ◌∷◌, ◌++◌}
use borrow.Author.Tests.{ltb-true, ltb-false}
use lib.ListN.{length, get_or, get_or-append}
use lib.Seq.{get_or-append_seam, get_or_at}
use lib.Dec.{ltb}
use Rattle.search.specs.Search.{Answer, To, None, Origin, Root, From, Graph, Result, Done, Over, seek, empty, stored, linked, placed, rooted, begun, answered, acted, turns, nodeIf, node, visited, explored, count, node_word, origin, distance_by, edge}
use Rattle.search.proofs.Reach.{Reach, first, onward, Distinct, AllOf, Many}
use Rattle.search.proofs.Grown.{len_more, more, Grown, stored_grown}
use Rattle.search.proofs.Count.{lt_or_le, same_place, row_below, seek_found, seek-bound, seek_le}
use Rattle.search.proofs.Distances.{Measured, Below, stored-measured}
use Rattle.search.proofs.Numbered.{Numbered, empty-numbered, root-numbered, linked-numbered, new-numbered}

abbrev pub Begins : List ℕ → Answer → Type 0
Begins ws (To w) = (0 < length ws) × (get_or ws 0 0 ≡ w)
Begins ws None = length ws ≡ 0

-- where the edge of node i and action j leads
abbrev pub Leads : (ℕ → ℕ → Answer) → List ℕ → ℕ → ℕ → Answer → Type 0
Leads next ws i j (To m) = (m < length ws) × (next (get_or ws i 0) j ≡ To (get_or ws m 0))
Leads next ws i j None = next (get_or ws i 0) j ≡ None

module _ (next : ℕ → ℕ → Answer) (a : ℕ) where
  -- no action before action j of node p, in number order, leads to the word w
  abbrev pub Unled : List ℕ → ℕ → ℕ → ℕ → Type 0
  Unled ws p j w = (k l : ℕ) → l < a → k * a + l < p * a + j → next (get_or ws k 0) l ≡ To w → ⊥

module _ (start : Answer) (next : ℕ → ℕ → Answer) (a : ℕ) where
  -- where node i comes from
  abbrev pub Comes : List ℕ → ℕ → Origin → Type 0
  Comes ws i Root = (i ≡ 0) × (start ≡ To (get_or ws i 0))
  Comes ws i (From p j) = (p < i) × (j < a) × (next (get_or ws p 0) j ≡ To (get_or ws i 0)) × Unled next a ws p j (get_or ws i 0)

module _ (start : Answer) (next : ℕ → ℕ → Answer) (a limit : ℕ) where
  pub record Sound (g : Graph) : Type 0 where
    pub same : length g.origins ≡ count g
    pub measured : Measured g
    pub few : count g ≤ limit
    pub begins : Begins g.words start
    pub distinct : Distinct g.words
    pub reached : AllOf (Reach start next a) g.words
    pub comes : (i : ℕ) → i < count g → Comes start next a g.words i (origin g i)
    pub leads : (i j : ℕ) → j < a → i * a + j < length g.edges → (i < count g) × Leads next g.words i j (edge a g i j)

  -- of a result: P of the graph, or one distinct reached word too many
  abbrev pub Holds : (Graph → Type 0) → Result → Type 0
  Holds P (Done g) = P g
  Holds P Over = Many (Reach start next a) (suc limit)

  -- the parent of a node comes before it
  older : (ws : List ℕ) (i : ℕ) (o : Origin) → Comes start next a ws i o → Below i o
  older ws i Root c = tt
  older ws i (From p j) c = c.0

  module _ (g h : Graph) (gr : Grown g h) (i : ℕ) (b : i < count g) where
    comes-kept : (o : Origin) → Comes start next a g.words i o → Comes start next a h.words i o
    comes-kept Root c = (c.0, rw (gr.words-kept i b) c.1)
    comes-kept (From p j) c = (
      c.0,
      c.1,
      rw (gr.words-kept i b, gr.words-kept p (omega arith)) c.2,
      λ k l hl lt e. c.3 k l hl lt (rw (gr.words-kept k (before k l lt), gr.words-kept i b) at e),
    )
      where
        before : (k l : ℕ) → k * a + l < p * a + j → k < count g
        before k l lt = ⊎_elim (λ h. absurd (omega (arith, row_below a p j k c.1 h))) (λ h. omega (arith, c.0)) (lt_or_le p k)

    leads-kept : (j : ℕ) (e : Answer) → Leads next g.words i j e → Leads next h.words i j e
    leads-kept j (To m) c =
        (omega (arith, gr.longer), rw (gr.words-kept i b, gr.words-kept m c.0) c.1)
    leads-kept j None c = rw (gr.words-kept i b) c

    begins-kept : (s : Answer) → Begins g.words s → Begins h.words s
    begins-kept (To w) c = (omega (arith, gr.longer), gr.words-kept 0 c.0 ∙ c.1)
    begins-kept None c = absurd (omega arith)

  -- a new word found from node k by action j
  module _ (k : ℕ) (g : Graph) (s : Sound g) (j w : ℕ) (here : k < count g) (hj : j < a) (gives : next (node_word g k) j ≡ To w)
      (fresh : (i : ℕ) → i < count g → node_word g i ≡ w → ⊥) where
    longer-list : Distinct (g.words ++ (w ∷ []))
    longer-list i j' hi hj' =
        more (λ (i : ℕ). (j : ℕ) → j < length (g.words ++ (w ∷ [])) → get_or (g.words ++ (w ∷ [])) i 0 ≡ get_or (g.words ++ (w ∷ [])) j 0 → i ≡ j) g.words w
        (λ i hi. more (λ (j : ℕ). get_or (g.words ++ (w ∷ [])) i 0 ≡ get_or (g.words ++ (w ∷ [])) j 0 → i ≡ j) g.words w
        (λ j hj. rw (get_or-append g.words (w ∷ []) 0 i hi, get_or-append g.words (w ∷ []) 0 j hj) (s.distinct i j hi hj))
        (rw (get_or-append g.words (w ∷ []) 0 i hi, get_or-append_seam g.words w [] 0) (λ e. absurd (fresh i hi e))))
        (more (λ (j : ℕ). get_or (g.words ++ (w ∷ [])) (count g) 0 ≡ get_or (g.words ++ (w ∷ [])) j 0 → count g ≡ j) g.words w
        (λ j hj. rw (get_or-append g.words (w ∷ []) 0 j hj, get_or-append_seam g.words w [] 0) (λ e. absurd (fresh j hj (sym e))))
        (λ e. refl)) i hi j' hj'

    longer-reached : AllOf (Reach start next a) (g.words ++ (w ∷ []))
    longer-reached =
        more (λ (i : ℕ). Reach start next a (get_or (g.words ++ (w ∷ [])) i 0)) g.words w
        (λ i h. rw (get_or-append g.words (w ∷ []) 0 i h) (s.reached i h))
        (rw (get_or-append_seam g.words w [] 0) (onward (s.reached k here) hj gives))

    too_many : limit ≤ count g → Many (Reach start next a) (suc limit)
    too_many full = record {
      list = g.words ++ (w ∷ []);
      size = let f = s.few in omega (arith, len_more g.words w);
      distinct = longer-list;
      all = longer-reached;
    }

    -- each action before has an edge, to a node that is stored already
    unled : length g.edges ≡ k * a + j → (h : Graph) → Grown g h → Unled next a h.words k j w
    unled wide h gr i l hl lt e =
        let f = s.leads i l hl (omega arith) in
        go (edge a g i l) f.1 (rw (gr.words-kept i f.0) at e)
      where
        go : (x : Answer) → Leads next g.words i l x → next (node_word g i) l ≡ To w → ⊥
        go (To m) c q = fresh m c.0 (let d : To (node_word g m) ≡ To w = sym c.1 ∙ q in cc)
        go None c q = let z : ◌≡◌ {A = ℕ} 0 1 = cc in omega arith

    stored-sound : count g < limit → length g.edges ≡ k * a + j → Sound (stored g (From k j) w)
    stored-sound room wide =
        let o = From k j in
        let h = stored g o w in
        let gr : Grown g h = stored_grown g o w s.same in
        let at : node_word h (count g) ≡ w = get_or-append_seam g.words w [] 0 in
        let from : origin h (count g) ≡ o = get_or_at g.origins o [] Root (count g) s.same in
        record {
          same = len_more g.origins o ∙ rw s.same (sym (len_more g.words w));
          measured = stored-measured g s.measured (λ i b. older g.words i (origin g i) (s.comes i b)) k j w s.same here;
          few = omega (arith, len_more g.words w);
          begins = begins-kept g h gr k here start s.begins;
          distinct = longer-list;
          reached = longer-reached;
          comes =
              more (λ (i : ℕ). Comes start next a h.words i (origin h i)) g.words w
              (λ i b. rw (gr.origins-kept i b) (comes-kept g h gr i b (origin g i) (s.comes i b)))
              (rw (from, at, gr.words-kept k here) (here, hj, gives, unled wide h gr));
          leads = λ i m hm b. let l = s.leads i m hm b in (omega (arith, gr.longer), leads-kept g h gr i l.0 m (edge a g i m) l.1);
        }

  -- an edge more, of node k and action j
  linked-sound : (k : ℕ) (g : Graph) → Sound g → (j : ℕ) → k < count g → j < a → length g.edges ≡ k * a + j → (e : Answer) → Leads next g.words k j e → Sound (linked g e)
  linked-sound k g s j here hj wide e l = record {
    same = s.same;
    measured = s.measured;
    few = s.few;
    begins = s.begins;
    distinct = s.distinct;
    reached = s.reached;
    comes = s.comes;
    leads = λ i m hm b.
        more (λ (x : ℕ). i * a + m ≡ x → (i < count g) × Leads next g.words i m (get_or (g.edges ++ (e ∷ [])) x None)) g.edges e
        (λ x bx ex. rw (get_or-append g.edges (e ∷ []) None x bx, ← ex) (s.leads i m hm (omega arith)))
        (λ ex. let p = same_place a i m k j hm hj (ex ∙ wide) in rw (get_or-append_seam g.edges e [] None, p.0, p.1) (here, l)) (i * a + m) b refl;
  }

  -- node k has had j of its actions
  abbrev pub Mid : ℕ → ℕ → Graph → Type 0
  Mid k j g = (k < count g) × (length g.edges ≡ k * a + j) × Sound g × Numbered a g

  -- the nodes before k have had theirs
  abbrev pub Out : ℕ → Graph → Type 0
  Out k g = (length g.edges ≡ min k (count g) * a) × Sound g × Numbered a g

  module _ (k j : ℕ) (g : Graph) (hj : j < a) (mid : Mid k j g) where
    wider : (e : Answer) → length (g.edges ++ (e ∷ [])) ≡ k * a + suc j
    wider e = omega (arith, len_more g.edges e, mid.1)

    none-mid : next (node_word g k) j ≡ None → Mid k (suc j) (linked g None)
    none-mid e = (mid.0, wider None, linked-sound k g mid.2 j mid.0 hj mid.1 None e, linked-numbered a g None mid.3)

    module _ (w : ℕ) (gives : next (node_word g k) j ≡ To w) where
      at : ℕ
      at = seek w g.words

      known-mid : at < count g → Mid k (suc j) (linked g (To at))
      unfolding at
      known-mid h =
          let found : node_word g (seek w g.words) ≡ w = seek_found w g.words h in
          (mid.0, wider (To (seek w g.words)), linked-sound k g mid.2 j mid.0 hj mid.1 (To (seek w g.words)) (h, rw found gives), linked-numbered a g (To (seek w g.words)) mid.3)

      fresh : count g ≤ at → (i : ℕ) → i < count g → node_word g i ≡ w → ⊥
      unfolding at
      fresh h i b e = omega (arith, seek_le w g.words i b e)

      new-mid : count g ≤ at → count g < limit → Mid k (suc j) (linked (stored g (From k j) w) (To at))
      unfolding at
      new-mid h room =
          let o = From k j in
          let is : seek w g.words ≡ count g = omega (arith, seek-bound w g.words) in
          let s : Sound (stored g o w) = stored-sound k g mid.2 j w mid.0 hj gives (fresh h) room mid.1 in
          let gr : Grown g (stored g o w) = stored_grown g o w mid.2.same in
          let here : k < count (stored g o w) = omega (arith, gr.longer, mid.0) in
          let there : count g < count (stored g o w) = omega (arith, len_more g.words w) in
          let found : node_word (stored g o w) (count g) ≡ w = get_or-append_seam g.words w [] 0 in
          rw is
          (here, wider (To (count g)), linked-sound k (stored g o w) s j here hj mid.1 (To (count g)) (there, rw (found, gr.words-kept k mid.0) gives), new-numbered a g k j w (To (count g)) mid.2.same mid.1 mid.3)

      placed-holds : (t u : Bool) → ltb at (count g) ≡ t → ltb (count g) limit ≡ u → Holds (Mid k (suc j)) (placed t u g (From k j) w at)
      placed-holds true u et eu = known-mid (ltb-true _ _ et)
      placed-holds false true et eu = new-mid (ltb-false _ _ et) (ltb-true _ _ eu)
      placed-holds false false et eu =
          too_many k g mid.2 j w mid.0 hj gives (fresh (ltb-false _ _ et)) (ltb-false _ _ eu)

    answered-holds : (x : Answer) → next (node_word g k) j ≡ x → Holds (Mid k (suc j)) (answered limit g (From k j) x)
    unfolding at
    answered-holds (To w) e = placed-holds w e (ltb (seek w g.words) (count g)) (ltb (count g) limit) refl refl
    answered-holds None e = none-mid e

  pub acted-holds : (k j : ℕ) (r : Result) → j < a → Holds (Mid k j) r → Holds (Mid k (suc j)) (acted next limit r k j)
  acted-holds k j (Done g) hj h = answered-holds k j g hj h (next (node_word g k) j) refl
  acted-holds k j Over hj h = h

  pub turns-holds : (g : Graph) (k : ℕ) → Mid k 0 g → (j : ℕ) → j ≤ a → Holds (Mid k j) (turns next limit g k j)
  unfolding turns
  turns-holds g k m zero h = m
  turns-holds g k m (suc j) h = acted-holds k j (turns next limit g k j) h (turns-holds g k m j (omega arith))

  out-mid : (k : ℕ) (g : Graph) → k < count g → Out k g → Mid k 0 g
  out-mid k g h o = (h, o.0 ∙ rw (min-eq_left {n = k} {m = count g} (omega arith), add-zero), o.1, o.2)

  mid-out : (k : ℕ) (g : Graph) → Mid k a g → Out (suc k) g
  mid-out k g m = (m.1 ∙ sym (suc-mul k a) ∙ rw (min-eq_left {n = suc k} {m = count g} m.0), m.2, m.3)

  mid-out-holds : (k : ℕ) (r : Result) → Holds (Mid k a) r → Holds (Out (suc k)) r
  mid-out-holds k (Done g) h = mid-out k g h
  mid-out-holds k Over h = h

  still : (k : ℕ) (g : Graph) → count g ≤ k → Out k g → Out (suc k) g
  still k g h o =
      (o.0 ∙ rw (min-eq_right {n = count g} {m = k} h, min-eq_right {n = count g} {m = suc k} (omega arith)), o.1, o.2)

  nodeIf-holds : (k : ℕ) (g : Graph) (t : Bool) → ltb k (count g) ≡ t → Out k g → Holds (Out (suc k)) (nodeIf next a limit t g k)
  nodeIf-holds k g true e o =
      mid-out-holds k (turns next limit g k a) (turns-holds g k (out-mid k g (ltb-true _ _ e) o) a (omega arith))
  nodeIf-holds k g false e o = still k g (ltb-false _ _ e) o

  pub node-holds : (k : ℕ) (r : Result) → Holds (Out k) r → Holds (Out (suc k)) (node next a limit r k)
  node-holds k (Done g) o = nodeIf-holds k g (ltb k (count g)) refl o
  node-holds k Over h = h

  module _ (w : ℕ) (is : start ≡ To w) where
    one-distinct : Distinct (w ∷ [])
    one-distinct i j hi hj e = omega arith

    one-reached : AllOf (Reach start next a) (w ∷ [])
    one-reached zero h = first is
    one-reached (suc i) h = absurd (omega arith)

    root-comes : (i : ℕ) → i < 1 → Comes start next a (w ∷ []) i (get_or (Root ∷ []) i Root)
    root-comes zero h = (refl, is)
    root-comes (suc i) h = absurd (omega arith)

    root-measured : (i : ℕ) → i < 1 → get_or (0 ∷ []) i 0 ≡ distance_by (0 ∷ []) (get_or (Root ∷ []) i Root)
    root-measured zero h = refl
    root-measured (suc i) h = absurd (omega arith)

    root-sound : 0 < limit → Sound (stored empty Root w)
    root-sound h = record {
      same = refl;
      measured = (refl, root-measured);
      few = h;
      begins = rw is (omega arith, refl);
      distinct = one-distinct;
      reached = one-reached;
      comes = root-comes;
      leads = λ i j hj b. absurd (not-suc-le-zero b);
    }

    rooted-holds : (t : Bool) → ltb 0 limit ≡ t → Holds (Out 0) (rooted t w)
    rooted-holds true e = (sym (zero-mul a) ∙ rw (min-eq_left {n = 0} {m = 1} (omega arith)), root-sound (ltb-true _ _ e), root-numbered a w)
    rooted-holds false e = let z = ltb-false 0 limit e in record { list = w ∷ []; size = omega arith; distinct = one-distinct; all = one-reached }

  empty-sound : start ≡ None → Sound empty
  empty-sound is = record {
    same = refl;
    measured = (refl, λ i b. absurd (not-suc-le-zero b));
    few = omega arith;
    begins = rw is refl;
    distinct = λ i j b. absurd (not-suc-le-zero b);
    reached = λ i b. absurd (not-suc-le-zero b);
    comes = λ i b. absurd (not-suc-le-zero b);
    leads = λ i j hj b. absurd (not-suc-le-zero b);
  }

  begun-holds : (s : Answer) → start ≡ s → Holds (Out 0) (begun limit s)
  begun-holds (To w) is = rooted-holds w is (ltb 0 limit) refl
  begun-holds None is = (sym (zero-mul a) ∙ rw (min-eq_left {n = 0} {m = 0} (omega arith)), empty-sound is, empty-numbered a)

  pub visited-holds : (k : ℕ) → Holds (Out k) (visited next a limit start k)
  unfolding visited
  visited-holds zero = begun-holds start refl
  visited-holds (suc k) = node-holds k (visited next a limit start k) (visited-holds k)

  pub explored-holds : Holds (Out limit) (explored next a limit start)
  unfolding explored
  explored-holds = visited-holds limit
