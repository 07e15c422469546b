-- Demand 3: a logic whose graph gives no finding is safe. Every state of a run lies in the ranges, and some stored node's literals are true there. That node is no
-- further from node 0 than the run has made moves: so a run is safe as long as it has made fewer than lead to any finding.
use mathlib.Core.Path.{◌≡◌, refl, sym, ◌∙◌}
use mathlib.Core.Bool.{Bool, true, false, cond}
use mathlib.Core.List.{List, [], ◌∷◌}
use Prim.Native.Nat.{ℕ, suc, ◌+◌, ◌<◌, ◌≤◌}
use native.Mathlib.Omega.{arith}
use lib.IntN.{ℤ, pos}
use lib.ListN.{length, get_or, get_or-eq_default}
use borrow.Author.Tests.{ne_eqb, le-ltb}
use Rattle.integers.proofs.Tests.{le_le_z}
use Rattle.grammar.specs.Programs.{Assignment, Program}
use Rattle.grammar.specs.WellFormed.{Each, WellFormed}
use Rattle.programs.proofs.Places.{none_action}
use Rattle.runs.specs.Runs.{lowest_off, Inside, Start, enabled, new_state, Outcome, Moved, NotEnabled, RunsOff, landed, action_of, step, forbidden, Run, onward, run, SafeRun, Safe}
use Rattle.runs.proofs.NewValues.{none-set}
use Rattle.lemmas.specs.Lemmas.{NotBelow, NotAbove, Lemma, START, range_at}
use Rattle.lemmas.specs.LemmaGrammar.{LemmaOk}
use Rattle.lemmas.specs.Truth.{happens}
use Rattle.words.specs.LiteralSets.{Literal}
use Rattle.formula.specs.Formula.{Monomial, False, And, at-start}
use Rattle.search.specs.Search.{Answer, To, None, Graph, count, distance, edge}
use Rattle.abstraction.specs.Abstraction.{applies, start, successor}
use Rattle.abstraction.specs.Faithful.{literals_at, Leads, Faithful}
use Rattle.abstraction.proofs.Unique.{root-of, distance-number}
use Rattle.abstraction.proofs.Shortest.{edge-near}
use Rattle.verdict.specs.Verdicts.{has_next, findings_at, findings}
use Rattle.safety.proofs.Literals.{TrueAt}
use Rattle.safety.proofs.Successors.{Describes, claims, successor-true}
use Rattle.safety.proofs.NoFinding.{Ends, none-anywhere, not-forbidden, ends-shown}
use Rattle.safety.proofs.Ranges.{On, stays_inside}

-- the state lies in the ranges, and the literals of a stored node are true there
pub record Known (p : Program) (g : Graph) (s : List ℤ) : Type 0 where
  pub inside : Inside p s
  pub node : ℕ
  pub stored : node < count g
  pub described : Each (TrueAt p s) (literals_at g node)

-- formula (3) gives a successor, to which the edge leads, and its literals, which are true, are a stored node's
pub record Next (p : Program) (g : Graph) (t : List ℤ) (f : Monomial) (e : Answer) : Type 0 where
  pub linked : has_next f ≡ true
  pub node : ℕ
  pub leads : e ≡ To node
  pub stored : node < count g
  pub described : Each (TrueAt p t) (literals_at g node)

pub next : (p : Program) (g : Graph) (t : List ℤ) (f : Monomial) (e : Answer) → Describes p t f → Leads g f e → Next p g t f e
next p g t False e d l = absurd d
next p g t (And m) (To i) d l = record { linked = refl; node = i; leads = refl; stored = l.0; described = rw l.1 d }
next p g t (And m) None d l = absurd l

-- known by a node that m moves may lead to
abbrev Reached : Program → Graph → ℕ → List ℤ → Type 0
Reached p g m s = (h : Known p g s) × (distance g h.node ≤ m)

-- an action that was tried did not run off, and where it moved the new state is known
abbrev Fine : Program → Graph → ℕ → Outcome → Type 0
Fine p g m (Moved t) = Reached p g (suc m) t
Fine p g m NotEnabled = Unit {0}
Fine p g m (RunsOff v) = ⊥

module _ (p : Program) (ok : WellFormed p) where
  start-keeps : (s : List ℤ) → new_state (action_of p START) s ≡ s
  start-keeps s = rw (get_or-eq_default p.actions none_action {n = START} (omega (arith, ok.actions.few))) (none-set s)

  pub action-happens : (s : List ℤ) (j : ℕ) → j < length p.actions → enabled (action_of p j) s ≡ true → happens p j s ≡ true
  action-happens s j l h = rw (ne_eqb j START (λ e. omega (arith, ok.actions.few))) h

  module _ (ls : List Lemma) (good : Each (LemmaOk p) ls) (g : Graph) (faithful : Faithful p ls g) where
    start-reached : (s : List ℤ) → Start p s → Reached p g 0 s
    start-reached s h = go (start p ls) refl (rw (start-keeps s) at (successor-true p ok s h.inside START h.meets [] tt ls good))
      where
        go : (f : Monomial) → start p ls ≡ f → Describes p s f → Reached p g 0 s
        go False e d = absurd d
        go (And m) e d =
            let some : 0 < count g = omega (arith, (faithful.all (at-start e)).1) in
            let same : And m ≡ And (literals_at g 0) = sym e ∙ (root-of p ls g faithful some).1 in
            let is : m ≡ literals_at g 0 = cc in
            (record { inside = h.inside; node = 0; stored = some; described = rw is at d }, distance-number p ls g faithful 0 some)

    pub known_start : (s : List ℤ) → Start p s → Known p g s
    known_start s h = (start-reached s h).0

    -- nodes nearer than n have no finding
    module _ (n : ℕ) (clear : (k : ℕ) → k < count g → distance g k < n → findings_at p ls g k ≡ []) where
      module _ (s : List ℤ) (h : Known p g s) (none : findings_at p ls g h.node ≡ []) where
        allowed : forbidden p s ≡ false
        allowed = not-forbidden p ls g h.node none s h.described

        module _ (j : ℕ) (l : j < length p.actions) where
          abbrev after : List ℤ
          after = new_state (action_of p j) s

          abbrev here : List Literal
          here = literals_at g h.node

          module _ (may : happens p j s ≡ true) where
            each_on : (ss : List Assignment) → Each (λ x. Ends (applies p ls j here) x.variable) ss → Each (λ x. On p after x.variable) ss
            each_on [] q = tt
            each_on (x ∷ ss) q =
                let v = x.variable in
                let y = get_or after v (pos 0) in
                let shows = claims p ok s h.inside j may here h.described ls good in
                (rw (le_le_z (range_at p v).low y (shows NotBelow v q.0.0), le_le_z y (range_at p v).high (shows NotAbove v q.0.1)) refl, each_on ss q.1)

            reached-after : Reached p g (suc (distance g h.node)) after
            reached-after =
                let f = successor p ls j here in
                let e = edge (length p.actions) g h.node j in
                let t = next p g after f e (successor-true p ok s h.inside j may here h.described ls good) (faithful.edges h.node j h.stored l) in
                let shown = ends-shown p ls g h.node none j l t.linked in
                let inside = stays_inside p s h.inside (action_of p j) (each_on (action_of p j).sets shown) in
                (record { inside = inside; node = t.node; stored = t.stored; described = t.described }, (edge-near p ls g faithful h.node j t.node h.stored l t.leads).1)

          fine-step : (m : ℕ) → distance g h.node ≤ m → Fine p g m (step p j s)
          fine-step m near = go (enabled (action_of p j) s) refl
            where
              go : (b : Bool) → enabled (action_of p j) s ≡ b → Fine p g m (cond b (landed p.ranges after) NotEnabled)
              go false e = tt
              go true e =
                  let (k, nearer) = reached-after (action-happens s j l e) in
                  rw (le-ltb (lowest_off p.ranges after) (length p.ranges) (omega (arith, k.inside.none-off))) (k, omega (arith, nearer, near))

      -- a run that has made m moves, and makes fewer than n in all
      abbrev SafeOn : (List ℤ → Run) → Type 0
      SafeOn go = (m : ℕ) (t : List ℤ) → Reached p g m t → m + (go t).moves < n → SafeRun p (go t)

      safe-onward : (s : List ℤ) (o : Outcome) (go : List ℤ → Run) (m : ℕ) → Reached p g m s → forbidden p s ≡ false → Fine p g m o → m + (onward s o go).moves < n → SafeOn go → SafeRun p (onward s o go)
      safe-onward s (Moved t) go m h a k few f = let r = f (suc m) t k (omega (arith, few)) in record { never-forbidden = (a, r.never-forbidden); never-off = r.never-off }
      safe-onward s NotEnabled go m h a k few f = let r = f m s h few in record { never-forbidden = (a, r.never-forbidden); never-off = r.never-off }
      safe-onward s (RunsOff v) go m h a k few f = absurd k

      safe-from : (ks : List ℕ) → Each (λ k. k < length p.actions) ks → SafeOn (run p ks)
      unfolding run
      safe-from [] l m s h few =
          record { never-forbidden = (allowed s h.0 (clear h.0.node h.0.stored (omega (arith, h.1, few))), tt); never-off = refl }
      safe-from (k ∷ ks) l m s h few =
          let none = clear h.0.node h.0.stored (omega (arith, h.1, few)) in
          safe-onward s (step p k s) (run p ks) m h (allowed s h.0 none) (fine-step s h.0 none k l.0 m h.1) few (safe-from ks l.1)

      pub safe-before : (s : List ℤ) → Start p s → (ks : List ℕ) → Each (λ k. k < length p.actions) ks → (run p ks s).moves < n → SafeRun p (run p ks s)
      safe-before s h ks l few = safe-from ks l 0 s (start-reached s h) (omega (arith, few))

pub safe : (p : Program) → WellFormed p → (ls : List Lemma) → Each (LemmaOk p) ls → (g : Graph) → Faithful p ls g → findings p ls g ≡ [] → Safe p
safe p ok ls good g faithful none s h ks l =
    safe-before p ok ls good g faithful (suc (run p ks s).moves) (λ k stored near. none-anywhere p ls g none k stored) s h ks l (omega arith)
