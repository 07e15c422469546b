-- The claims of the accepted lemmas: each may stand in the tables, and what they show at a node is what the lemma list shows.
use mathlib.Core.Path.{◌≡◌, refl, subst}
use mathlib.Core.Bool.{Bool, true, false, ◌&&◌}
use mathlib.Core.Logic.{◌⊎◌, inl, inr, ⊎_elim, ◌↔◌}
use mathlib.Core.List.Memᴰ
use mathlib.Core.List.{List, [], ◌∷◌, map, Memᴰ}
use Prim.Native.Nat.{ℕ, ◌<◌}
use native.Mathlib.Omega.{arith}
use lib.Dec.{eqb}
use lib.ListN.{length}
use borrow.Author.Tests.{eqb-true, eq-eqb, ltb-true}
use Rattle.grammar.specs.Programs.{Program}
use Rattle.grammar.specs.WellFormed.{Each, WellFormed}
use Rattle.runs.specs.Runs.{action_of}
use Rattle.lemmas.specs.Lemmas.{Goal, CannotHappen, HoldsAfter, FailsAfter, NotBelow, NotAbove, goal_number, Lemma, accepted}
use Rattle.lemmas.specs.LemmaGrammar.{sets_variable, goal_allowed, LemmaOk}
use Rattle.lemmas.proofs.LemmaLaws.{same-goal, sets-known, action-rising}
use Rattle.sets.specs.Sets.{bit_of}
use Rattle.gather.specs.Gathering.{Claim, place_of, Placed, cannot, holds, fails, low_end, high_end, Sound, entry_of, gathered, AnyOf}
use Rattle.gather.proofs.Shown.{never, Shows, shown_by}
use Rattle.integers.proofs.Tests.{and-true, or_cases, same_test}
use Rattle.words.specs.LiteralSets.{Literal, literals_in, has}
use Rattle.abstraction.specs.Abstraction.{all_among, lemma_applies, applies}
use Rattle.abstraction.specs.Claims.{claim_of, with_claim, claims}
use Rattle.abstraction.proofs.Literals.{subset_is}

-- ---- what an applying lemma has
pub record Applied (p : Program) (source : ℕ) (exp : List Literal) (goal : Goal) (index : ℕ) (l : Lemma) : Type 0 where
  pub accepts : accepted p l ≡ true
  pub source_is : l.source ≡ source
  pub goal-is : goal_number l.goal ≡ goal_number goal
  pub index_is : l.index ≡ index
  pub premises_in : all_among (literals_in 14 l.premises.0) exp ≡ true

pub applied_is : (p : Program) (source : ℕ) (exp : List Literal) (goal : Goal) (index : ℕ) (l : Lemma) → (lemma_applies p source exp goal index l ≡ true) ↔ Applied p source exp goal index l
applied_is p source exp goal index l =
    let a = accepted p l in
    let s = eqb l.source source in
    let g = eqb (goal_number l.goal) (goal_number goal) in
    let i = eqb l.index index in (
      λ h. let (h₁, q) = and-true (a && s && g && i) (all_among (literals_in 14 l.premises.0) exp) h in
          let (h₂, qi) = and-true (a && s && g) i h₁ in
          let (h₃, qg) = and-true (a && s) g h₂ in
          let (qa, qs) = and-true a s h₃ in
          record {
            accepts = qa;
            source_is = eqb-true l.source source qs;
            goal-is = eqb-true (goal_number l.goal) (goal_number goal) qg;
            index_is = eqb-true l.index index qi;
            premises_in = q;
          },
      λ w. rw (w.accepts, eq-eqb l.source source w.source_is, eq-eqb (goal_number l.goal) (goal_number goal) w.goal-is, eq-eqb l.index index w.index_is, w.premises_in) refl,
    )

-- ---- a list of claims, perhaps with one before it
module _ (P : Claim → Type 0) where
  some_with : (b : Bool) (c : Claim) (cs : List Claim) → AnyOf P (with_claim b c cs) ↔ (((b ≡ true) × P c) ⊎ AnyOf P cs)
  some_with true c cs = (
    λ w. let (x, d, h) = w in ⊎_elim (λ q. inl (refl, rw q at h)) (λ q. inr (x, q, h)) (Memᴰ.cases_cons d),
    λ s. ⊎_elim (λ h. (c, Memᴰ.head refl, h.1)) (λ w. let (x, d, h) = w in (x, Memᴰ.tail d, h)) s,
  )
  some_with false c cs = (λ w. inr w, λ s. ⊎_elim (λ h. never h.0) (λ w. w) s)

module _ (p : Program) where
  -- ---- each is a well-formed lemma's
  abbrev Told : Claim → Type 0
  Told c = (l : Lemma) × LemmaOk p l × (c ≡ claim_of l)

  claim-told : (ls : List Lemma) → Each (LemmaOk p) ls → (c : Claim) → Memᴰ c (claims p ls) → Told c
  unfolding claims
  claim-told [] ok c d = absurd (Memᴰ.not-nil d)
  claim-told (l ∷ ls) ok c d =
      ⊎_elim (λ h. (l, ok.0, h.1)) (λ w. let (x, m, e) = w in rw e (claim-told ls ok.1 x m))
      ((some_with (λ x. c ≡ x) (accepted p l) (claim_of l) (claims p ls)).0 (c, d, refl))

  set-lt : WellFormed p → (s v : ℕ) → sets_variable (action_of p s).sets v ≡ true → v < 8
  set-lt ok s v e = omega (arith, sets-known (length p.ranges) 0 (action_of p s).sets v (action-rising (length p.ranges) p.actions s ok.actions.each) e, ok.ranges.few)

  goal-known : WellFormed p → (s : ℕ) (g : Goal) (i : ℕ) → goal_allowed p s g i ≡ true → Placed (goal_number g) i
  goal-known ok s CannotHappen i e = rw (eqb-true i 0 e) cannot
  goal-known ok s HoldsAfter i e = holds {i = i} (omega (arith, ltb-true i (length p.predicates) e, ok.predicates.few))
  goal-known ok s FailsAfter i e = fails {i = i} (omega (arith, ltb-true i (length p.predicates) e, ok.predicates.few))
  goal-known ok s NotBelow i e = low_end (set-lt ok s i e)
  goal-known ok s NotAbove i e = high_end (set-lt ok s i e)

  pub claims-sound : WellFormed p → (ls : List Lemma) → Each (LemmaOk p) ls → (c : Claim) → Memᴰ c (claims p ls) → Sound c
  claims-sound ok ls good c d =
      let (l, o, e) = claim-told ls good c d in
      rw e (record { goal = goal-known ok l.source l.goal l.index o.goal; premises = o.payload })

  -- ---- what they show
  module _ (source set : ℕ) (goal : Goal) (index : ℕ) where
    lemma-is : (l : Lemma) → (lemma_applies p source (literals_in 14 set) goal index l ≡ true) ↔ ((accepted p l ≡ true) × Shows source set (goal_number goal) index (claim_of l))
    lemma-is l =
        let (to, back) = applied_is p source (literals_in 14 set) goal index l in
        let (there, here) = subset_is l.premises.0 set in (
          λ h. let w = to h in (w.accepts, (w.source_is, w.goal-is, w.index_is, there w.premises_in)),
          λ w. let (qs, qg, qi, q) = w.1 in back (record { accepts = w.0; source_is = qs; goal-is = qg; index_is = qi; premises_in = here q }),
        )

    list-is : (ls : List Lemma) → (applies p ls source (literals_in 14 set) goal index ≡ true) ↔ AnyOf (Shows source set (goal_number goal) index) (claims p ls)
    unfolding applies claims
    list-is [] = (λ h. never h, λ w. absurd (Memᴰ.not-nil w.1))
    list-is (l ∷ ls) =
        let (to, back) = list-is ls in
        let (there, here) = lemma-is l in
        let (split, join) = or_cases (lemma_applies p source (literals_in 14 set) goal index l) (applies p ls source (literals_in 14 set) goal index) in
        let (out, into) = some_with (Shows source set (goal_number goal) index) (accepted p l) (claim_of l) (claims p ls) in (
          λ h. into (⊎_elim (λ q. inl (there q)) (λ q. inr (to q)) (split h)),
          λ w. join (⊎_elim (λ q. inl (here q)) (λ q. inr (back q)) (out w)),
        )

    -- what applies is allowed
    pub applied-allowed : (ls : List Lemma) → Each (LemmaOk p) ls → applies p ls source (literals_in 14 set) goal index ≡ true → goal_allowed p source goal index ≡ true
    applied-allowed ls good h =
        let (c, d, w) = (list-is ls).0 h in
        let (l, o, e) = claim-told ls good c d in
        allowed l o (subst (Shows source set (goal_number goal) index) e w)
      where
        allowed : (l : Lemma) → LemmaOk p l → Shows source set (goal_number goal) index (claim_of l) → goal_allowed p source goal index ≡ true
        allowed l o w = rw (← w.0, ← same-goal l.goal goal w.1, ← w.2) o.goal

-- the gathered word says of each goal and index whether a lemma applies
pub applies-is : (p : Program) → WellFormed p → (ls : List Lemma) → Each (LemmaOk p) ls → (source set : ℕ) (goal : Goal) (index : ℕ) → Placed (goal_number goal) index
    → has (place_of (goal_number goal) index) (gathered source set (map entry_of (claims p ls))) ≡ applies p ls source (literals_in 14 set) goal index
applies-is p ok ls good source set goal index g =
    let word = gathered source set (map entry_of (claims p ls)) in
    let (to, back) = shown_by source set g (claims p ls) (claims-sound p ok ls good) in
    let (there, here) = list-is p source set goal index ls in
    same_test (has (place_of (goal_number goal) index) word) (applies p ls source (literals_in 14 set) goal index)
    (λ h. here (to (eqb-true (bit_of (place_of (goal_number goal) index) word) 1 h))) (λ h. eq-eqb (bit_of (place_of (goal_number goal) index) word) 1 (back (there h)))
