-- Steps and runs: two steps in a row are the run of the two actions.
use mathlib.Core.Path.{◌≡◌, refl, sym, ap, ◌∙◌}
use mathlib.Core.Bool.{Bool, true, false, cond}
use mathlib.Core.Logic.{◌⊎◌, inl, inr, ⊎_elim}
use mathlib.Core.List.{List, [], ◌∷◌}
use Prim.Native.Nat.{ℕ, ◌≤◌, ◌<◌}
use native.Mathlib.Omega.{arith}
use lib.Dec.{ltb}
use lib.IntN.{ℤ}
use lib.ListN.{length}
use borrow.Author.Tests.{ltb-false}
use Rattle.std.specs.Prelude.{Ok}
use Rattle.rows.specs.declared.Range.{Range}
use Rattle.grammar.specs.Reading.{Read, got}
use Rattle.grammar.specs.Programs.{Program}
use Rattle.programs.specs.Calls.{read}
use Rattle.runs.specs.declared.Stepped.TheVariants.{RunsOff}
use Rattle.runs.specs.Runs.{Outcome, Finished, Inside, lowest_off, step, landed, enabled, new_value, new_state, action_of, run}
use Rattle.runs.proofs.Answers.{on_range_lem}
use Rattle.runs.proofs.NewValues.{values_length}
use Rattle.runs.proofs.Trying.{lowest-most}
use Rattle.runs.specs.Calls.{Stepping, outcome, answered, step_call}

-- t is left by trying action k on s: by a move, or because the action is not enabled
abbrev pub Leaves : Program → ℕ → List ℤ → List ℤ → Type 0
Leaves p k s t = (step p k s ≡ Outcome.Moved t) ⊎ ((step p k s ≡ Outcome.NotEnabled) × (s ≡ t))

-- trying an action first, and then the rest of a list
pub run_on : (p : Program) (k : ℕ) (ks : List ℕ) {s t : List ℤ} → Leaves p k s t → ((run p (k ∷ ks) s).states ≡ s ∷ (run p ks t).states) × ((run p (k ∷ ks) s).ending ≡ (run p ks t).ending)
unfolding run
run_on p k ks {s} {t} h = ⊎_elim (λ e. rw e (refl, refl)) (λ e. rw (e.0, e.1) (refl, refl)) h

pub two_steps : (p : Program) (j k : ℕ) {s t u : List ℤ} → Leaves p j s t → Leaves p k t u → ((run p (j ∷ k ∷ []) s).states ≡ s ∷ t ∷ u ∷ []) × ((run p (j ∷ k ∷ []) s).ending ≡ Finished)
unfolding run
two_steps p j k {s} h g =
    let a = run_on p j (k ∷ []) h in
    let b = run_on p k [] g in
    (a.0 ∙ ap (λ (l : List (List ℤ)). s ∷ l) b.0, a.1 ∙ b.1)

-- ---- the call
module _ (ws : List ℕ) (p : Program) {us : List ℕ} {i : ℕ} (q : read ws ≡ got p us i) where
  -- a call that does not run off leaves what the definition leaves
  pub call-leaves : (k : ℕ) (s : List ℤ) → k < length p.actions → Inside p s → ((v : ℕ) → (step_call ws k s).answer ≡ Ok (RunsOff v) → ⊥) → Leaves p k s (step_call ws k s).state
  call-leaves k s known h never = go (step p k s) refl
    where
      same : outcome (action_of p k).guards (step p k s) s ≡ step_call ws k s
      same = ap (λ (m : Read Program). answered step m k s) (sym (on_range_lem ws p q k s known h.long (omega (arith, h.none-off))))

      by : (o : Outcome) → step p k s ≡ o → outcome (action_of p k).guards o s ≡ step_call ws k s
      by o e = ap (λ (x : Outcome). outcome (action_of p k).guards x s) (sym e) ∙ same

      go : (o : Outcome) → step p k s ≡ o → Leaves p k s (step_call ws k s).state
      go (Outcome.Moved t) e = inl (e ∙ ap Outcome.Moved (ap (λ (y : Stepping). y.state) (by (Outcome.Moved t) e)))
      go Outcome.NotEnabled e = inr (e, ap (λ (y : Stepping). y.state) (by Outcome.NotEnabled e))
      go (Outcome.RunsOff v) e = absurd (never v (sym (ap (λ (y : Stepping). y.answer) (by (Outcome.RunsOff v) e))))

-- ---- the ranges are kept
moved_on : (gs : List Range) (b : Bool) (u t : List ℤ) → cond b (landed gs u) Outcome.NotEnabled ≡ Outcome.Moved t → (u ≡ t) × (length gs ≤ lowest_off gs u)
moved_on gs false u t e = let z : ◌≡◌ {A = ℕ} 0 1 = cc in absurd (omega arith)
moved_on gs true u t e = go (ltb (lowest_off gs u) (length gs)) refl e
  where
    go : (c : Bool) → ltb (lowest_off gs u) (length gs) ≡ c → cond c (Outcome.RunsOff (lowest_off gs u)) (Outcome.Moved u) ≡ Outcome.Moved t → (u ≡ t) × (length gs ≤ lowest_off gs u)
    go true p f = let z : ◌≡◌ {A = ℕ} 0 1 = cc f in absurd (omega arith)
    go false p f = (cc f, ltb-false (lowest_off gs u) (length gs) p)

pub inside-left : (p : Program) (k : ℕ) {s t : List ℤ} → Inside p s → Leaves p k s t → Inside p t
inside-left p k {s} {t} h g = ⊎_elim
    (λ e.
    let (same, on) = moved_on p.ranges (enabled (action_of p k) s) (new_state (action_of p k) s) t e in
    let most = lowest-most p.ranges (new_state (action_of p k) s) in
    let l = values_length (new_value (action_of p k).sets s) 0 (length s) in
    rw (← same) (record { long = l ∙ h.long; none-off = omega arith }))
    (λ e. rw e.1 at h) g

-- two calls in a row, neither of which runs off, are the run of the two actions
pub two_calls : (ws : List ℕ) (p : Program) {us : List ℕ} {i : ℕ} → read ws ≡ got p us i → (j k : ℕ) (s : List ℤ) → j < length p.actions → k < length p.actions → Inside p s
    → ((v : ℕ) → (step_call ws j s).answer ≡ Ok (RunsOff v) → ⊥) → ((v : ℕ) → (step_call ws k (step_call ws j s).state).answer ≡ Ok (RunsOff v) → ⊥)
    → (run p (j ∷ k ∷ []) s).states ≡ s ∷ (step_call ws j s).state ∷ (step_call ws k (step_call ws j s).state).state ∷ []
two_calls ws p q j k s lj lk h never₁ never₂ =
    let a = call-leaves ws p q j s lj h never₁ in
    let b = call-leaves ws p q k (step_call ws j s).state lk (inside-left p j h a) never₂ in
    (two_steps p j k a b).0
