-- Where the exact step does not run off, the rack's is the same; so where the exact run does not, it is the rack's; so after safe they are the same, runs and calls.
use mathlib.Core.Path.{◌≡◌, refl, sym, ap, subst, ◌∙◌}
use mathlib.Core.Bool.{Bool, true, false, cond}
use mathlib.Core.Logic.{inl}
use mathlib.Core.List.{List, [], ◌∷◌}
use Prim.Native.Nat.{ℕ, ◌<◌, ◌≤◌}
use native.Mathlib.Omega.{arith}
use lib.Dec.{ltb}
use lib.IntN.{ℤ}
use lib.ListN.{length}
use borrow.Author.Tests.{ltb-false}
use Rattle.std.specs.Prelude.{Ok}
use Rattle.rows.specs.declared.Row.{Row}
use Rattle.rows.specs.declared.Range.{Range}
use Rattle.grammar.specs.Reading.{Read, got, refused}
use Rattle.grammar.specs.Programs.{Program}
use Rattle.grammar.specs.WellFormed.{Each, WellFormed}
use Rattle.grammar.proofs.ProgramLaws.{accepted}
use Rattle.programs.specs.Calls.{read}
use Rattle.runs.specs.declared.Stepped.TheVariants.{RunsOff as AnswerRunsOff}
use Rattle.runs.specs.Runs.{Outcome, Moved, NotEnabled, RunsOff, Finished, RanOff, Inside, Start, lowest_off, landed, enabled, action_of, new_state, new_value, step, onward, run, Safe}
use Rattle.runs.specs.Guards.{Guarded}
use Rattle.runs.specs.Calls.{ready, answered, outcome, step_call}
use Rattle.runs.proofs.Guards.{guarded}
use Rattle.runs.proofs.Answers.{ready-known}
use Rattle.runs.proofs.Steps.{Leaves, run_on, inside-left}
use Rattle.runs.proofs.Trying.{lowest-most}
use Rattle.runs.proofs.NewValues.{values_length}
use Rattle.rack.specs.Rack.{rack_state, rack_step, rack_run, rack_call}
use Rattle.rack.proofs.Exact.{Held, held_same, inside-held, state-kept, state-held}

-- one that lands on its ranges is stored as it is
same_outcome : (on : Bool) (gs : List Range) (t u : List ℤ) → (length gs ≤ lowest_off gs t → u ≡ t) → (o : Outcome) → cond on (landed gs t) NotEnabled ≡ o
    → ((v : ℕ) → o ≡ RunsOff v → ⊥) → cond on (Moved u) NotEnabled ≡ o
same_outcome false gs t u same o e never = e
same_outcome true gs t u same o e never = go (ltb (lowest_off gs t) (length gs)) refl e
  where
    go : (c : Bool) → ltb (lowest_off gs t) (length gs) ≡ c → cond c (RunsOff (lowest_off gs t)) (Moved t) ≡ o → Moved u ≡ o
    go true q f = absurd (never (lowest_off gs t) (sym f))
    go false q f = ap Moved (same (ltb-false (lowest_off gs t) (length gs) q)) ∙ f

module _ (p : Program) (good : WellFormed p) where
  pub same_step : (k : ℕ) (s : List ℤ) → Inside p s → {o : Outcome} → step p k s ≡ o → ((v : ℕ) → o ≡ RunsOff v → ⊥) → rack_step p k s ≡ o
  same_step k s h {o} e never =
      let a = action_of p k in
      let t = new_state a s in
      let most = lowest-most p.ranges t in
      same_outcome (enabled a s) p.ranges t (rack_state a s)
      (λ on. state-kept a s (inside-held p good s h)
      ∙ held_same t (inside-held p good t (record { long = values_length (new_value a.sets s) 0 (length s) ∙ h.long; none-off = omega arith }))) o e never

  pub same-run : (ks : List ℕ) (s : List ℤ) → Inside p s → (run p ks s).ending ≡ Finished → rack_run p ks s ≡ run p ks s
  unfolding run rack_run
  same-run [] s h f = refl
  same-run (k ∷ ks) s h f = go (step p k s) refl f (same-run ks)
    where
      go : (o : Outcome) → step p k s ≡ o → (onward s o (run p ks)).ending ≡ Finished → ((t : List ℤ) → Inside p t → (run p ks t).ending ≡ Finished → rack_run p ks t ≡ run p ks t)
          → onward s (rack_step p k s) (rack_run p ks) ≡ onward s (step p k s) (run p ks)
      go (Moved t) e g rest =
          let r = same_step k s h e (λ v z. let y : ◌≡◌ {A = ℕ} 0 1 = cc z in absurd (omega arith)) in
          rw (r, e, rest t (inside-left p k h (inl e)) g) refl
      go NotEnabled e g rest =
          let r = same_step k s h e (λ v z. let y : ◌≡◌ {A = ℕ} 0 1 = cc z in absurd (omega arith)) in
          rw (r, e, rest s h g) refl
      go (RunsOff v) e g rest = let z : ◌≡◌ {A = ℕ} 0 1 = cc g in absurd (omega arith)

-- the rack's run goes on to the end of the list, and sixteen bits hold every value of every state
pub goes_on_lem : (p : Program) (ks : List ℕ) (s : List ℤ) → Held s → ((rack_run p ks s).ending ≡ Finished) × Each Held (rack_run p ks s).states
unfolding rack_run
goes_on_lem p [] s h = (refl, (h, tt))
goes_on_lem p (k ∷ ks) s h = pick (enabled (action_of p k) s) (rack_state (action_of p k) s) (goes_on_lem p ks (rack_state (action_of p k) s) (state-held (action_of p k) s h)) (goes_on_lem p ks s h)
  where
    pick : (b : Bool) (t : List ℤ) → ((rack_run p ks t).ending ≡ Finished) × Each Held (rack_run p ks t).states → ((rack_run p ks s).ending ≡ Finished) × Each Held (rack_run p ks s).states
        → let r = onward s (cond b (Moved t) NotEnabled) (rack_run p ks) in (r.ending ≡ Finished) × Each Held r.states
    pick true t moved stayed = (moved.0, (h, moved.1))
    pick false t moved stayed = (stayed.0, (h, stayed.1))

-- the calls: where Step does not run off, the rack's step answers and leaves the same
pub same_call : (ws : List ℕ) (k : ℕ) (s : List ℤ) → ((v : ℕ) → (step_call ws k s).answer ≡ Ok (AnswerRunsOff v) → ⊥) → rack_call ws k s ≡ step_call ws k s
same_call ws k s never = go (ready (read ws) k s) refl never
  where
    go : (m : Read Program) → ready (read ws) k s ≡ m → ((v : ℕ) → (answered step m k s).answer ≡ Ok (AnswerRunsOff v) → ⊥) → answered rack_step m k s ≡ answered step m k s
    go (refused r) e n = refl
    go (got p us i) e n =
        let m = ready-known (read ws) k s e in
        ap (λ (o : Outcome). outcome (action_of p k).guards o s) (same_step p (accepted ws p us i m.is_read).good k s m.inside refl (λ v f. n v (ap (λ (o : Outcome). (outcome (action_of p k).guards o s).answer) f)))

-- what an answer of it says of the guards
pub rack_guarded : (m : Read Program) (k : ℕ) (s : List ℤ) → Guarded m k s (answered rack_step m k s).answer
rack_guarded m k s = guarded rack_step (λ p. Moved (rack_state (action_of p k) s)) k s (λ p. refl) (λ p e. let z : ◌≡◌ {A = ℕ} 0 1 = cc e in absurd (omega arith)) m

-- the rack's step answers moved or not enabled, or refuses
pub never_runs_off : (ws : List ℕ) (k : ℕ) (s : List ℤ) (v : ℕ) → (rack_call ws k s).answer ≡ Ok (AnswerRunsOff v) → ⊥
never_runs_off ws k s v e = go (ready (read ws) k s) e
  where
    tried : (guards : List Row) (b : Bool) (t : List ℤ) → (outcome guards (cond b (Moved t) NotEnabled) s).answer ≡ Ok (AnswerRunsOff v) → ⊥
    tried guards true t f = let z : ◌≡◌ {A = ℕ} 0 1 = cc f in absurd (omega arith)
    tried guards false t f = let z : ◌≡◌ {A = ℕ} 0 1 = cc f in absurd (omega arith)

    go : (m : Read Program) → (answered rack_step m k s).answer ≡ Ok (AnswerRunsOff v) → ⊥
    go (refused r) f = let z : ◌≡◌ {A = ℕ} 0 1 = cc f in absurd (omega arith)
    go (got p us i) f = tried (action_of p k).guards (enabled (action_of p k) s) (rack_state (action_of p k) s) f

-- ---- from safe, in the calls' terms
module _ (ws : List ℕ) (p : Program) {us : List ℕ} {i : ℕ} (q : read ws ≡ got p us i) where
  -- whatever is tried from a state, nothing runs off
  abbrev Harmless : List ℤ → Type 0
  Harmless s = (ks : List ℕ) → Each (λ k. k < length p.actions) ks → (run p ks s).ending ≡ Finished

  step-off : (k : ℕ) (s : List ℤ) (o : Outcome) (v : ℕ) → step p k s ≡ o → (outcome (action_of p k).guards o s).answer ≡ Ok (AnswerRunsOff v) → (run p (k ∷ []) s).ending ≡ RanOff
  unfolding run
  step-off k s (Moved t) v e f = let z : ◌≡◌ {A = ℕ} 0 1 = cc f in absurd (omega arith)
  step-off k s NotEnabled v e f = let z : ◌≡◌ {A = ℕ} 0 1 = cc f in absurd (omega arith)
  step-off k s (RunsOff w) v e f = rw e refl

  never-off : (s : List ℤ) → Harmless s → (k v : ℕ) → (step_call ws k s).answer ≡ Ok (AnswerRunsOff v) → ⊥
  never-off s h k v e = go (ready (read ws) k s) refl e
    where
      go : (m : Read Program) → ready (read ws) k s ≡ m → (answered step m k s).answer ≡ Ok (AnswerRunsOff v) → ⊥
      go (refused r) f g = let z : ◌≡◌ {A = ℕ} 0 1 = cc g in absurd (omega arith)
      go (got p' us' i') f g =
          let m = ready-known (read ws) k s f in
          let same : p' ≡ p = cc (m.is_read, q) in
          let known = subst (λ (x : Program). k < length x.actions) same m.known in
          let off = step-off k s (step p k s) v refl (subst (λ (x : Program). (outcome (action_of x k).guards (step x k s) s).answer ≡ Ok (AnswerRunsOff v)) same g) in
          let z : ◌≡◌ {A = ℕ} 0 1 = cc (sym off ∙ h (k ∷ []) (known, tt)) in
          absurd (omega arith)

  abbrev Same : List ℤ → Type 0
  Same t = (k : ℕ) → rack_call ws k t ≡ step_call ws k t

  same-calls : (s : List ℤ) → Harmless s → Same s
  same-calls s h k = same_call ws k s (never-off s h k)

  harmless-left : (k : ℕ) → k < length p.actions → {s t : List ℤ} → Leaves p k s t → Harmless s → Harmless t
  harmless-left k known g h js each = sym (run_on p k js g).1 ∙ h (k ∷ js) (known, each)

  harmless-calls : (ks : List ℕ) → Each (λ k. k < length p.actions) ks → (s : List ℤ) → Harmless s → Each Same (run p ks s).states
  unfolding run
  harmless-calls [] known s h = (same-calls s h, tt)
  harmless-calls (k ∷ ks) known s h = go (step p k s) refl (harmless-calls ks known.1)
    where
      go : (o : Outcome) → step p k s ≡ o → ((t : List ℤ) → Harmless t → Each Same (run p ks t).states) → Each Same (onward s (step p k s) (run p ks)).states
      go (Moved t) e rest = rw e (same-calls s h, rest t (harmless-left k known.0 (inl e) h))
      go NotEnabled e rest = rw e (same-calls s h, rest s h)
      go (RunsOff v) e rest = rw e (same-calls s h, tt)

  pub after-safe : Safe p → (s : List ℤ) → Start p s → (ks : List ℕ) → Each (λ k. k < length p.actions) ks → (rack_run p ks s ≡ run p ks s) × Each Same (run p ks s).states
  after-safe safe s h ks known =
      (same-run p (accepted ws p us i q).good ks s h.inside (safe s h ks known).never-off, harmless-calls ks known s (λ js each. (safe s h js each).never-off))
