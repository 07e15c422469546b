-- The findings of a graph are those that are due, and of a well-formed program their numbers fit their fields.
use mathlib.Core.Path.{◌≡◌, refl, sym}
use mathlib.Core.Bool.{Bool, true, false, cond}
use mathlib.Core.Logic.{inr, ⊎_elim, ◌↔◌}
use mathlib.Core.List.{List, [], ◌∷◌, ◌++◌, Memᴰ}
use Prim.Native.Nat.{ℕ, ◌≤◌, ◌<◌}
use native.Mathlib.Omega.{arith}
use lib.Dec.{eqb}
use lib.ListN.{length}
use borrow.Author.Tests.{eqb-true, eq-eqb}
use Rattle.integers.proofs.Tests.{false-true, or_cases}
use Rattle.records.specs.Records.{most_nodes}
use Rattle.grammar.specs.Programs.{Assignment, Program}
use Rattle.grammar.specs.WellFormed.{WellFormed}
use Rattle.runs.specs.Runs.{action_of}
use Rattle.lemmas.specs.Lemmas.{Goal, Lemma}
use Rattle.lemmas.specs.LemmaGrammar.{sets_variable}
use Rattle.lemmas.proofs.LemmaLaws.{sets-known, action-rising}
use Rattle.search.specs.Search.{Graph, count}
use Rattle.verdict.specs.Verdicts.{unless, ends, findings}
use Rattle.verdict.specs.declared.Finding.{Finding}
use Rattle.verdict.specs.declared.Finding.TheVariants.{Forbid, RunOff}
use Rattle.sheet.specs.Sheets.{Fits, end_goal, Due}
use Rattle.sheet.proofs.Pieces.{in_pieces, combinationsAt, actions_at, findings-pieces}

module _ (f : Finding) where
  in-unless : (b : Bool) (x : Finding) → Memᴰ f (unless b x) ↔ ((b ≡ false) × (f ≡ x))
  in-unless true x = (λ d. absurd (mathlib.Core.List.Memᴰ.not-nil d), λ w. false-true (sym w.0))
  in-unless false x = (λ d. (refl, mathlib.Core.List.Memᴰ.eq_of_singleton d), λ w. mathlib.Core.List.Memᴰ.head w.1)

  in-if : (b : Bool) (fs : List Finding) → Memᴰ f (cond b fs []) ↔ ((b ≡ true) × Memᴰ f fs)
  in-if true fs = (λ d. (refl, d), λ w. w.1)
  in-if false fs = (λ d. absurd (mathlib.Core.List.Memᴰ.not-nil d), λ w. false-true w.0)

  -- ---- the ends of an action's variables
  module _ (shows : Goal → ℕ → Bool) (k j : ℕ) where
    -- an end of a variable that no lemma shows, and f says so
    abbrev Missing : ℕ → Bool → Type 0
    Missing v high = (shows (end_goal high) v ≡ false) × (f ≡ RunOff k j v high)

    abbrev end : ℕ → Bool → List Finding
    end v high = unless (shows (end_goal high) v) (RunOff k j v high)

    in_end : (v : ℕ) (high : Bool) → Memᴰ f (end v high) ↔ Missing v high
    in_end v high = in-unless (shows (end_goal high) v) (RunOff k j v high)

    end-in : (v : ℕ) (high : Bool) (rest : List Finding) → Missing v high → Memᴰ f (end v false ++ (end v true ++ rest))
    end-in v false rest m = mathlib.Core.List.Memᴰ.append_left (end v true ++ rest) ((in_end v false).1 m)
    end-in v true rest m = mathlib.Core.List.Memᴰ.append_right (end v false) (mathlib.Core.List.Memᴰ.append_left rest ((in_end v true).1 m))

    in-ends : (ss : List Assignment) → Memᴰ f (ends shows k j ss) ↔ ((v : ℕ) × (high : Bool) × (sets_variable ss v ≡ true) × Missing v high)
    unfolding ends sets_variable
    in-ends [] = (λ d. absurd (mathlib.Core.List.Memᴰ.not-nil d), λ w. false-true w.2)
    in-ends (s ∷ ss) =
        let u = s.variable in
        let (to, back) = in-ends ss in
        let is : eqb u u ≡ true = eq-eqb u u refl in (
          λ d. ⊎_elim (λ q. (u, false, rw is refl, (in_end u false).0 q))
              (λ r. ⊎_elim (λ q. (u, true, rw is refl, (in_end u true).0 q))
              (λ q. let (v, high, sets, m) = to q in (v, high, (or_cases (eqb u v) (sets_variable ss v)).1 (inr sets), m))
              (mathlib.Core.List.Memᴰ.append_cases (end u true) r))
              (mathlib.Core.List.Memᴰ.append_cases (end u false) d),
          λ w. let (v, high, sets, m) = w in
              ⊎_elim (λ q. end-in u high (ends shows k j ss) (rw (← eqb-true u v q) at m))
              (λ q. mathlib.Core.List.Memᴰ.append_right (end u false) (mathlib.Core.List.Memᴰ.append_right (end u true) (back (v, high, q, m)))) ((or_cases (eqb u v) (sets_variable ss v)).0 sets),
        )

-- ---- the whole graph
module _ (p : Program) (ls : List Lemma) (g : Graph) where
  module _ (k : ℕ) (at : k < count g) (f : Finding) where
    combination-due : Memᴰ f (combinationsAt p ls g k) → Due p ls g f
    combination-due d =
        let (b, among, e) = (in_pieces _ f _).0 d in
        let (free, is) = (in-unless f _ (Forbid k b)).0 e in
        rw is (at, among, free)

    action-due : Memᴰ f (actions_at p ls g k) → Due p ls g f
    action-due d =
        let (j, among, e) = (in_pieces _ f _).0 d in
        let (next, e') = (in-if f _ _).0 e in
        let (v, high, sets, m) = (in-ends f _ k j _).0 e' in
        rw m.1 (at, among, next, sets, m.0)

  in-due : (f : Finding) → Memᴰ f (findings p ls g) → Due p ls g f
  in-due f d =
      let (k, at, here) = (in_pieces _ f _).0 (rw (findings-pieces p ls g) at d) in
      ⊎_elim (combination-due k at f) (action-due k at f) (mathlib.Core.List.Memᴰ.append_cases (combinationsAt p ls g k) here)

  due_in : (f : Finding) → Due p ls g f → Memᴰ f (findings p ls g)
  due_in (Forbid k b) (at, among, free) =
      let here : Memᴰ (Forbid k b) (combinationsAt p ls g k) = (in_pieces _ _ _).1 (b, among, (in-unless _ _ _).1 (free, refl)) in
      rw (findings-pieces p ls g) ((in_pieces _ _ _).1 (k, at, mathlib.Core.List.Memᴰ.append_left (actions_at p ls g k) here))
  due_in (RunOff k j v high) (at, among, next, sets, missing) =
      let found = (in-ends _ _ k j _).1 (v, high, sets, (missing, refl)) in
      let here : Memᴰ (RunOff k j v high) (actions_at p ls g k) = (in_pieces _ _ _).1 (j, among, (in-if _ _ _).1 (next, found)) in
      rw (findings-pieces p ls g) ((in_pieces _ _ _).1 (k, at, mathlib.Core.List.Memᴰ.append_right (combinationsAt p ls g k) here))

  pub findings-are : (f : Finding) → Memᴰ f (findings p ls g) ↔ Due p ls g f
  findings-are f = (in-due f, due_in f)

  -- ---- the numbers of what is due
  pub due-fits : WellFormed p → count g ≤ most_nodes → (f : Finding) → Due p ls g f → Fits f
  due-fits good few (Forbid k b) (at, among, free) = (omega arith, omega (arith, good.forbidden.few))
  due-fits good few (RunOff k j v high) (at, among, next, sets, missing) =
      let vars = length p.ranges in
      let known = sets-known vars 0 (action_of p j).sets v (action-rising vars p.actions j good.actions.each) sets in
      (omega arith, omega (arith, good.actions.few), omega (arith, good.ranges.few))
