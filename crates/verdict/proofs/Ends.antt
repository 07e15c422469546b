-- The ends of ranges at a node:
--     off-skip, off-kept, off-here, off-end   the loop over a node's actions
--     ends_found                              the first end of an action that is missing is the first finding of its ends
use mathlib.Core.Path.{◌≡◌, refl, sym, ◌∙◌, subst}
use Rattle.std.specs.Option.{is_some}
use Rattle.std.specs.Prelude.{None, Some}
use mathlib.Core.Bool.{Bool, true, false, cond}
use mathlib.Core.Logic.{◌⊎◌, inl, inr, ⊎_elim, ◌↔◌}
use mathlib.Core.List.{List, [], ◌∷◌, ◌++◌}
use Prim.Native.Nat.{ℕ, suc, ◌+◌, ◌-◌, ◌/◌, ◌%◌, ◌<◌, ◌≤◌}
use native.Mathlib.Omega.{arith}
use native.Mathlib.Numerals.{add-one}
use lib.Dec.{eqb}
use lib.ListN.{length, get_or}
use borrow.Author.Tests.{eqb-true, eq-eqb, ne_eqb, lt-ltb, le-ltb}
use Rattle.integers.proofs.Tests.{or_true}
use Rattle.grammar.specs.Programs.{Assignment, Action, Program}
use Rattle.grammar.specs.WellFormed.{Rising, WellFormed}
use Rattle.actions.specs.Results.{variables_set, none_set}
use Rattle.runs.specs.Runs.{action_of}
use Rattle.lemmas.specs.Lemmas.{Goal, NotBelow, NotAbove, goal_number, Lemma}
use Rattle.lemmas.specs.LemmaGrammar.{sets_variable}
use Rattle.lemmas.proofs.LemmaLaws.{action-rising}
use Rattle.lemmas.proofs.HeadLaws.{marks-of}
use Rattle.sets.specs.Sets.{Member}
use Rattle.sets.proofs.Laws.{pairs-are}
use Rattle.gather.specs.Gathering.{Placed, low_end, high_end, place_of, known, successor_of, first_missing}
use Rattle.gather.proofs.Shown.{never, missing-is}
use Rattle.search.proofs.Count.{lt_or_le, eq_or_ne}
use Rattle.words.specs.LiteralSets.{literals_in, has}
use Rattle.abstraction.specs.Abstraction.{applies}
use Rattle.gather.specs.declared.Entry.{Entry}
use Rattle.verdict.specs.Verdicts.{ends}
use Rattle.verdict.specs.declared.Finding.{Finding}
use Rattle.verdict.specs.declared.Finding.TheVariants.{RunOff}
use Rattle.verdict.specs.Working.{ends_to, ends_of, found_of, end_at, first_unshown}
use Rattle.std.proofs.lemmas.Bool.{or_right}

-- ---- the loop over the actions
module _ (asked shown : List ℕ) (k n j : ℕ) (same : first_unshown asked shown k j (n - j) ≡ first_unshown asked shown k 0 n) where
  module _ (h : j < n) where
    off_at : first_unshown asked shown k j (n - j)
        ≡ cond (is_some (successor_of (get_or shown j 0))) (end_at k j (first_missing (get_or asked j 0) (get_or shown j 0)) (first_unshown asked shown k (j + 1) (n - (j + 1)))) (first_unshown asked shown k (j + 1) (n - (j + 1)))
    unfolding first_unshown
    off_at = let e : n - j ≡ suc (n - (j + 1)) = omega arith in rw (e, add-one j) refl

    pub off-skip : is_some (successor_of (get_or shown j 0)) ≡ false → first_unshown asked shown k (j + 1) (n - (j + 1)) ≡ first_unshown asked shown k 0 n
    off-skip b = sym (off_at ∙ rw b refl) ∙ same

    module _ (b : is_some (successor_of (get_or shown j 0)) ≡ true) (m : ℕ) (is : m ≡ first_missing (get_or asked j 0) (get_or shown j 0)) where
      pub off-kept : 64 ≤ m → first_unshown asked shown k (j + 1) (n - (j + 1)) ≡ first_unshown asked shown k 0 n
      off-kept l = sym (off_at ∙ rw (b, ← is, le-ltb m 64 l) refl) ∙ same

      pub off-here : m < 64 → Some (RunOff k j (m / 2 % 14) (eqb (m % 2) 1)) ≡ first_unshown asked shown k 0 n
      off-here l = sym (off_at ∙ rw (b, ← is, lt-ltb m 64 l) refl) ∙ same

  pub off-end : n ≤ j → None ≡ first_unshown asked shown k 0 n
  unfolding first_unshown
  off-end h = let e : n - j ≡ 0 = omega arith in rw e at same

-- ---- the places that are asked for
unfoldable pub Asked : List Bool → ℕ → ℕ → Type 0
Asked marks n q = (v : ℕ) × (v < n) × (get_or marks v false ≡ true) × ((q ≡ place_of 3 v) ⊎ (q ≡ place_of 4 v))

pub asked_is : (marks : List Bool) (n q : ℕ) → Member q (ends_to marks n) ↔ Asked marks n q
unfolding Asked
asked_is marks n q = pairs-are (place_of 3) (place_of 4) (λ v. get_or marks v false) n q

-- ---- the ends of one action, m being the first place that is missing
pub rising-within : (vars v : ℕ) (ss : List Assignment) (u : ℕ) → Rising vars v ss → sets_variable ss u ≡ true → (v ≤ u) × (u < vars)
unfolding sets_variable
rising-within vars v [] u r e = never e
rising-within vars v (s ∷ ss) u r e =
    let from = r.0.from in
    let below = r.0.below in
    ⊎_elim (λ q. let same = eqb-true s.variable u q in (omega arith, omega arith))
    (λ q. let (a, b) = rising-within vars (suc s.variable) ss u r.1 q in (omega arith, b)) (or_true (eqb s.variable u) (sets_variable ss u) e)

-- a place of m, missing
Miss : (Goal → ℕ → Bool) → List Assignment → ℕ → Type 0
Miss shows ss m = (u : ℕ) × (sets_variable ss u ≡ true) × (((m ≡ place_of 3 u) × (shows NotBelow u ≡ false)) ⊎ ((m ≡ place_of 4 u) × (shows NotAbove u ≡ false)))

record Missing (shows : Goal → ℕ → Bool) (ss : List Assignment) (m : ℕ) : Type 0 where
  pub below : (u : ℕ) → sets_variable ss u ≡ true → (place_of 3 u < m → shows NotBelow u ≡ true) × (place_of 4 u < m → shows NotAbove u ≡ true)
  pub at : m < 64 → Miss shows ss m

module _ (shows : Goal → ℕ → Bool) (k j m vars : ℕ) (few : vars ≤ 8) (rest : List Finding) where
  -- what is found, of an action's assignments
  Finds : List Assignment → Type 0
  Finds ss = found_of (ends shows k j ss ++ rest) ≡ end_at k j m (found_of rest)

  module _ (s : Assignment) (ss : List Assignment) (v : ℕ) (r : Rising vars v (s ∷ ss)) (f : Missing shows (s ∷ ss) m) (more : Missing shows ss m → Finds ss) where
    first-shown : (place_of 3 s.variable < m → shows NotBelow s.variable ≡ true) × (place_of 4 s.variable < m → shows NotAbove s.variable ≡ true)
    unfolding sets_variable
    first-shown = f.below s.variable (rw (eq-eqb s.variable s.variable refl) refl)

    passed : place_of 4 s.variable < m → (m < 64 → Miss shows ss m) → Finds (s ∷ ss)
    unfolding ends sets_variable Finds
    passed h at =
        rw (first-shown.0 (omega arith), first-shown.1 h)
        (more (record { below = λ x e. f.below x (or_right (eqb s.variable x) (sets_variable ss x) e); at = at }))

    -- m is an end of the first variable
    stops : m < 64 → ((m ≡ place_of 3 s.variable) × (shows NotBelow s.variable ≡ false)) ⊎ ((m ≡ place_of 4 s.variable) × (shows NotAbove s.variable ≡ false)) → Finds (s ∷ ss)
    unfolding ends Finds
    stops lt end =
        let below = r.0.below in
        ⊎_elim
        (λ w. let half : m / 2 % 14 ≡ s.variable = omega (arith, w.0) in
        rw (w.1, lt-ltb m 64 lt, half, ne_eqb (m % 2) 1 (λ e. omega (arith, w.0))) refl)
        (λ w. let half : m / 2 % 14 ≡ s.variable = omega (arith, w.0) in
        rw (first-shown.0 (omega (arith, w.0)), w.1, lt-ltb m 64 lt, half, eq-eqb (m % 2) 1 (omega (arith, w.0))) refl) end

    first-or-more : Finds (s ∷ ss)
    unfolding sets_variable Miss
    first-or-more =
        let below = r.0.below in
        ⊎_elim
        (λ lt. let (u, e, w) = f.at lt in
        ⊎_elim (λ same. stops lt (rw same at w))
        (λ other. let in_rest : sets_variable ss u ≡ true = ⊎_elim (λ q. absurd (other (sym (eqb-true s.variable u q)))) (λ q. q) (or_true (eqb s.variable u) (sets_variable ss u) e) in
        let later = rising-within vars (suc s.variable) ss u r.1 in_rest in
        passed (⊎_elim (λ q. omega (arith, later, q.0)) (λ q. omega (arith, later, q.0)) w) (λ l. (u, in_rest, w))) (eq_or_ne u s.variable))
        (λ le. passed (omega arith) (λ lt. absurd (omega arith))) (lt_or_le m 64)

  ends-first : (v : ℕ) (ss : List Assignment) → Rising vars v ss → Missing shows ss m → Finds ss
  unfolding ends sets_variable Finds Miss
  ends-first v [] r f = ⊎_elim (λ lt. never (f.at lt).1) (λ le. rw (le-ltb m 64 le) refl) (lt_or_le m 64)
  ends-first v (s ∷ ss) r f = first-or-more s ss v r f (ends-first (suc s.variable) ss r.1)

-- ---- an action of a program at a node
module _ (p : Program) (ls : List Lemma) (es : List Entry) (kept : List ℕ) (good : WellFormed p)
    (applying : (source set : ℕ) (goal : Goal) (index : ℕ) → Placed (goal_number goal) index → 28 ≤ place_of (goal_number goal) index
    → has (place_of (goal_number goal) index) (known (get_or kept source 0) source set es) ≡ applies p ls source (literals_in 14 set) goal index) (set k j : ℕ) where
  abbrev sets_of : List Assignment
  sets_of = (action_of p j).sets

  abbrev shows : Goal → ℕ → Bool
  shows = applies p ls j (literals_in 14 set)

  abbrev shown : ℕ
  shown = known (get_or kept j 0) j set es

  rising : Rising (length p.ranges) 0 sets_of
  rising = action-rising (length p.ranges) p.actions j good.actions.each

  missing : Missing shows sets_of (first_missing (ends_of (action_of p j)) shown)
  unfolding Asked Miss
  missing =
      let asked = ends_of (action_of p j) in
      let m = first_missing asked shown in
      let few = good.ranges.few in
      let marks-are = marks-of p good j in
      let (before, at) = missing-is asked shown in
      let small : (u : ℕ) → sets_variable sets_of u ≡ true → u < 8 = λ u e. omega (arith, rising-within (length p.ranges) 0 sets_of u rising e) in
      record {
        below = λ u e. (
          λ l. sym (applying j set NotBelow u (low_end (small u e)) (omega arith)) ∙ eq-eqb _ 1 (before (place_of 3 u) l ((asked_is (variables_set none_set sets_of) 8 (place_of 3 u)).1 (u, small u e, marks-are u ∙ e, inl refl))),
          λ l. sym (applying j set NotAbove u (high_end (small u e)) (omega arith)) ∙ eq-eqb _ 1 (before (place_of 4 u) l ((asked_is (variables_set none_set sets_of) 8 (place_of 4 u)).1 (u, small u e, marks-are u ∙ e, inr refl))),
        );
        at = λ l. let (u, h, e, s) = (asked_is (variables_set none_set sets_of) 8 m).0 (at l).0 in (
          u,
          sym (marks-are u) ∙ e,
          ⊎_elim (λ q. inl (q, sym (applying j set NotBelow u (low_end h) (omega arith)) ∙ ne_eqb _ 1 (λ z. (at l).1 (rw q z))))
              (λ q. inr (q, sym (applying j set NotAbove u (high_end h) (omega arith)) ∙ ne_eqb _ 1 (λ z. (at l).1 (rw q z)))) s,
        );
      }

  pub ends_found : (x : Action) → action_of p j ≡ x → (rest : List Finding) → found_of (ends shows k j x.sets ++ rest) ≡ end_at k j (first_missing (ends_of x) shown) (found_of rest)
  unfolding Finds
  ends_found x is rest =
      subst (λ (y : Action). found_of (ends shows k j y.sets ++ rest) ≡ end_at k j (first_missing (ends_of y) shown) (found_of rest)) is
      (ends-first shows k j (first_missing (ends_of (action_of p j)) shown) (length p.ranges) good.ranges.few rest 0 sets_of rising missing)
