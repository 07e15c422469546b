-- The exploration is what the document says. With g the graph that it ends with:
--     stored-reached, reached-stored     the stored words are exactly the reached ones
--     stored-once                        no word is stored twice
--     edge-is                            edge (i, j) is the number at which next (word i) j stands, none exactly if there is none
--     at_most, over                      it is over exactly if there are more than limit distinct reached words
--     later                              nodes are numbered in the order of finding
--     measured                           node 0's distance is 0, any other's its parent's plus 1
--     comes                              node 0 is the start's; any other has a parent with a smaller number, whose action is the first that leads to it
use Prim.Native.Nat.{ℕ, suc, ◌*◌, ◌<◌, ◌≤◌}
use native.Mathlib.Omega.{arith}
use native.Mathlib.Nat.{min-eq_right}
use mathlib.Core.Path.{◌≡◌, refl, sym, ◌∙◌}
use mathlib.Core.Logic.{◌↔◌}
use mathlib.Core.List.{List}
use lib.ListN.{length}
use Rattle.search.specs.Search.{Answer, To, None, Graph, Done, Over, seek, explored, count, node_word, origin, edge}
use Rattle.search.proofs.Reach.{Reach, first, onward, Distinct, AllOf, Many}
use Rattle.search.proofs.Count.{row_below, seek_found, seek_le, no_more}
use Rattle.search.proofs.Distances.{Measured}
use Rattle.search.proofs.Numbered.{Earlier}
use Rattle.search.proofs.Sound.{Begins, Comes, Leads, Sound, Out, explored-holds}

pub to_inj : {v w : ℕ} → To v ≡ To w → v ≡ w
to_inj e = cc

pub not_none : {v : ℕ} → To v ≡ None → ⊥
not_none {v} e = let z : ◌≡◌ {A = ℕ} 0 1 = cc in omega arith

-- an answer in words as an answer in node numbers
abbrev pub numbered : List ℕ → Answer → Answer
numbered ws (To w) = To (seek w ws)
numbered ws None = None

-- what is known of the graph that the exploration ends with
pub record Whole (start : Answer) (next : ℕ → ℕ → Answer) (a limit : ℕ) (g : Graph) : Type 0 where
  pub within : count g ≤ limit
  pub origins-count : length g.origins ≡ count g
  pub measured : Measured g
  pub edges-count : length g.edges ≡ count g * a
  pub begins : Begins g.words start
  pub stored-reached : AllOf (Reach start next a) g.words
  pub reached-stored : {w : ℕ} → Reach start next a w → seek w g.words < count g
  pub stored-once : Distinct g.words
  pub found_at : (m : ℕ) → m < count g → seek (node_word g m) g.words ≡ m
  pub edge-is : (i j : ℕ) → i < count g → j < a → edge a g i j ≡ numbered g.words (next (node_word g i) j)
  pub edge_none : (i j : ℕ) → i < count g → j < a → (edge a g i j ≡ None) ↔ (next (node_word g i) j ≡ None)
  pub leads : (i j : ℕ) → i < count g → j < a → Leads next g.words i j (edge a g i j)
  pub at_most : (xs : List ℕ) → Distinct xs → AllOf (Reach start next a) xs → length xs ≤ limit
  pub comes : (i : ℕ) → i < count g → Comes start next a g.words i (origin g i)
  pub later : (i k : ℕ) → i < k → k < count g → Earlier a (origin g i) (origin g k)

module _ (g : Graph) where
  pub start-stored : (s : Answer) → Begins g.words s → (w : ℕ) → s ≡ To w → (0 < count g) × (node_word g 0 ≡ w)
  start-stored (To v) b w e = (b.0, b.1 ∙ to_inj e)
  start-stored None b w e = absurd (not_none (sym e))

module _ (next : ℕ → ℕ → Answer) (g : Graph) where
  pub led : (i j v : ℕ) (e : Answer) → Leads next g.words i j e → next (node_word g i) j ≡ To v
      → (m : ℕ) × (m < count g) × (node_word g m ≡ v)
  led i j v (To m) l n = (m, l.0, to_inj (sym l.1 ∙ n))
  led i j v None l n = absurd (not_none (sym n ∙ l))

module _ (start : Answer) (next : ℕ → ℕ → Answer) (a limit : ℕ) where
  pub over : explored next a limit start ≡ Over → Many (Reach start next a) (suc limit)
  over e = rw e at (explored-holds start next a limit)

  module _ (g : Graph) (is : explored next a limit start ≡ Done g) where
    out : Out start next a limit limit g
    out = rw is at (explored-holds start next a limit)

    sound : Sound start next a limit g
    sound = out.1

    within : count g ≤ limit
    within = sound.few

    origins-count : length g.origins ≡ count g
    origins-count = sound.same

    edges-count : length g.edges ≡ count g * a
    edges-count = out.0 ∙ rw (min-eq_right {n = count g} {m = limit} within)

    begins : Begins g.words start
    begins = sound.begins

    stored-reached : AllOf (Reach start next a) g.words
    stored-reached = sound.reached

    stored-once : Distinct g.words
    stored-once = sound.distinct

    comes : (i : ℕ) → i < count g → Comes start next a g.words i (origin g i)
    comes = sound.comes

    leads : (i j : ℕ) → i < count g → j < a → Leads next g.words i j (edge a g i j)
    leads i j hi hj = (sound.leads i j hj (omega (arith, row_below a i j (count g) hj hi, edges-count))).1

    -- a stored word is found where it stands
    found_at : (m : ℕ) → m < count g → seek (node_word g m) g.words ≡ m
    found_at m h =
        let l = seek_le (node_word g m) g.words m h refl in
        stored-once (seek (node_word g m) g.words) m (omega arith) h (seek_found (node_word g m) g.words (omega arith))

    edge-as : (i j : ℕ) (e : Answer) → Leads next g.words i j e → e ≡ numbered g.words (next (node_word g i) j)
    edge-as i j (To m) l = rw (l.1, found_at m l.0)
    edge-as i j None l = rw l

    edge-is : (i j : ℕ) → i < count g → j < a → edge a g i j ≡ numbered g.words (next (node_word g i) j)
    edge-is i j hi hj = edge-as i j (edge a g i j) (leads i j hi hj)

    edge_none : (i j : ℕ) → i < count g → j < a → (edge a g i j ≡ None) ↔ (next (node_word g i) j ≡ None)
    edge_none i j hi hj = (λ e. rw e at (leads i j hi hj), λ e. edge-is i j hi hj ∙ rw e)

    reached-stored : {w : ℕ} → Reach start next a w → seek w g.words < count g
    reached-stored {w} (first e) =
        let b = start-stored g start begins w e in
        omega (arith, seek_le w g.words 0 b.0 b.1, b.0)
    reached-stored {w} (onward {w = u} {j = j} r hj e) =
        let h = reached-stored r in
        let f : node_word g (seek u g.words) ≡ u = seek_found u g.words h in
        let l = led next g (seek u g.words) j w (edge a g (seek u g.words) j) (leads (seek u g.words) j h hj) (rw f e) in
        omega (arith, seek_le w g.words l.0 l.1 l.2, l.1)

    at_most : (xs : List ℕ) → Distinct xs → AllOf (Reach start next a) xs → length xs ≤ limit
    at_most xs d all =
        omega (arith, within, no_more xs g.words d (λ i h. reached-stored (all i h)))

    pub whole : Whole start next a limit g
    whole = record {
      within = within;
      origins-count = origins-count;
      measured = sound.measured;
      edges-count = edges-count;
      begins = begins;
      stored-reached = stored-reached;
      reached-stored = reached-stored;
      stored-once = stored-once;
      found_at = found_at;
      edge-is = edge-is;
      edge_none = edge_none;
      leads = leads;
      at_most = at_most;
      comes = comes;
      later = out.2.later;
    }
