-- Nothing that a run does is missed: whatever combination a state of a run meets, and whichever variable an action runs off there, is due at some node.
use mathlib.Core.Path.{◌≡◌, refl, ◌∙◌}
use mathlib.Core.Bool.{Bool, true, false, cond}
use mathlib.Core.List.{List, [], ◌∷◌}
use Prim.Native.Nat.{ℕ, suc, ◌<◌, ◌≤◌}
use native.Mathlib.Omega.{arith}
use lib.Dec.{ltb}
use lib.IntN.{ℤ, pos}
use lib.ListN.{length, get_or}
use borrow.Author.Tests.{ltb-true, ltb-false}
use Rattle.integers.proofs.Tests.{le_le_z}
use Rattle.words.specs.Words.{no_literals}
use Rattle.words.specs.LiteralSets.{Literal, literals_in}
use Rattle.rows.specs.declared.Range.{Range}
use Rattle.rows.specs.Rows.{zero_range}
use Rattle.grammar.specs.Programs.{Program}
use Rattle.grammar.specs.WellFormed.{Each, WellFormed}
use Rattle.runs.specs.Runs.{on_range, lowest_off, Start, enabled, new_value, new_state, Outcome, Moved, NotEnabled, RunsOff, landed, action_of, step, meets, Run, onward, run}
use Rattle.runs.proofs.NewValues.{values_length, value-at}
use Rattle.runs.proofs.Trying.{on_range_lem}
use Rattle.lemmas.specs.Lemmas.{NotBelow, NotAbove, Lemma, range_at}
use Rattle.lemmas.specs.LemmaGrammar.{LemmaOk, sets_variable}
use Rattle.lemmas.specs.Truth.{happens}
use Rattle.frame.proofs.Frame.{unset_kept}
use Rattle.search.specs.Search.{Graph, edge}
use Rattle.abstraction.specs.Abstraction.{applies, successor}
use Rattle.abstraction.specs.Faithful.{literals_at, Faithful}
use Rattle.verdict.specs.Verdicts.{contradicted}
use Rattle.verdict.specs.declared.Finding.TheVariants.{Forbid, RunOff}
use Rattle.safety.proofs.Literals.{not-met}
use Rattle.safety.proofs.Successors.{claims, successor-true}
use Rattle.safety.proofs.Safety.{Known, Next, next, action-happens, known_start}
use Rattle.sheet.specs.Sheets.{Due, Told}

not-both : {P : Type 0} {b : Bool} → b ≡ true → b ≡ false → P
not-both h e = cc

-- the value of the lowest variable that is off its range is off it
off-there : (gs : List Range) (xs : List ℤ) → length xs ≡ length gs → lowest_off gs xs < length gs
    → on_range (get_or gs (lowest_off gs xs) zero_range) (get_or xs (lowest_off gs xs) (pos 0)) ≡ false
unfolding lowest_off
off-there [] xs e h = absurd (omega arith)
off-there (g ∷ gs) [] e h = absurd (omega (arith, e))
off-there (g ∷ gs) (x ∷ xs) e h = go (on_range g x) refl h (λ l. off-there gs xs (omega (arith, e)) l)
  where
    go : (b : Bool) → on_range g x ≡ b → cond b (suc (lowest_off gs xs)) 0 < suc (length gs)
        → (lowest_off gs xs < length gs → on_range (get_or gs (lowest_off gs xs) zero_range) (get_or xs (lowest_off gs xs) (pos 0)) ≡ false)
        → on_range (get_or (g ∷ gs) (cond b (suc (lowest_off gs xs)) 0) zero_range) (get_or (x ∷ xs) (cond b (suc (lowest_off gs xs)) 0) (pos 0)) ≡ false
    go true q l more = more (omega (arith, l))
    go false q l more = q

lowest-within : (gs : List Range) (xs : List ℤ) → lowest_off gs xs ≤ length gs
unfolding lowest_off
lowest-within [] xs = omega arith
lowest-within (g ∷ gs) [] = omega arith
lowest-within (g ∷ gs) (x ∷ xs) = go (on_range g x) (lowest-within gs xs)
  where
    go : (b : Bool) → lowest_off gs xs ≤ length gs → cond b (suc (lowest_off gs xs)) 0 ≤ suc (length gs)
    go true h = omega (arith, h)
    go false h = omega arith

-- what a step says of the new state
data Stepped (p : Program) (j : ℕ) (s : List ℤ) : Outcome → Type 0 where
  waits : Stepped p j s NotEnabled
  moves : enabled (action_of p j) s ≡ true → length p.ranges ≤ lowest_off p.ranges (new_state (action_of p j) s) → Stepped p j s (Moved (new_state (action_of p j) s))
  leaves : enabled (action_of p j) s ≡ true → lowest_off p.ranges (new_state (action_of p j) s) < length p.ranges
      → Stepped p j s (RunsOff (lowest_off p.ranges (new_state (action_of p j) s)))

stepped : (p : Program) (j : ℕ) (s : List ℤ) → Stepped p j s (step p j s)
stepped p j s = go (enabled (action_of p j) s) refl
  where
    go : (b : Bool) → enabled (action_of p j) s ≡ b → Stepped p j s (cond b (landed p.ranges (new_state (action_of p j) s)) NotEnabled)
    go false e = waits
    go true e = at (ltb (lowest_off p.ranges (new_state (action_of p j) s)) (length p.ranges)) refl
      where
        at : (t : Bool) → ltb (lowest_off p.ranges (new_state (action_of p j) s)) (length p.ranges) ≡ t
            → Stepped p j s (cond t (RunsOff (lowest_off p.ranges (new_state (action_of p j) s))) (Moved (new_state (action_of p j) s)))
        at true q = leaves e (ltb-true _ _ q)
        at false q = moves e (ltb-false _ _ q)

module _ (p : Program) (ok : WellFormed p) (ls : List Lemma) (good : Each (LemmaOk p) ls) (g : Graph) (faithful : Faithful p ls g) where
  module _ (s : List ℤ) (h : Known p g s) where
    abbrev here : List Literal
    here = literals_at g h.node

    combination-told : (b : ℕ) → b < length p.forbidden → meets p (get_or p.forbidden b no_literals) s ≡ true → (k : ℕ) × Due p ls g (Forbid k b)
    combination-told b l m = (h.node, go (contradicted (literals_in 14 (get_or p.forbidden b no_literals).0) here) refl)
      where
        go : (t : Bool) → contradicted (literals_in 14 (get_or p.forbidden b no_literals).0) here ≡ t → Due p ls g (Forbid h.node b)
        go true e = not-both m (not-met p s (get_or p.forbidden b no_literals) here h.described e)
        go false e = (h.stored, l, e)

    module _ (j : ℕ) (l : j < length p.actions) (on : enabled (action_of p j) s ≡ true) where
      abbrev after : List ℤ
      after = new_state (action_of p j) s

      may : happens p j s ≡ true
      may = action-happens p ok s j l on

      after-long : length after ≡ length p.ranges
      after-long = values_length (new_value (action_of p j).sets s) 0 (length s) ∙ h.inside.long

      follows : Next p g after (successor p ls j here) (edge (length p.actions) g h.node j)
      follows =
          next p g after (successor p ls j here) (edge (length p.actions) g h.node j) (successor-true p ok s h.inside j may here h.described ls good)
          (faithful.edges h.node j h.stored l)

      known-moved : length p.ranges ≤ lowest_off p.ranges after → Known p g after
      known-moved e =
          record { inside = record { long = after-long; none-off = omega (arith, e, lowest-within p.ranges after) }; node = follows.node; stored = follows.stored; described = follows.described }

      module _ (v : ℕ) (few : v < length p.ranges) (off : on_range (range_at p v) (get_or after v (pos 0)) ≡ false) where
        is_set : sets_variable (action_of p j).sets v ≡ true
        is_set = go (sets_variable (action_of p j).sets v) refl
          where
            go : (b : Bool) → sets_variable (action_of p j).sets v ≡ b → b ≡ true
            go true e = refl
            go false e =
                let kept : get_or after v (pos 0) ≡ get_or s v (pos 0) = value-at (new_value (action_of p j).sets s) (length s) v (omega (arith, few, h.inside.long)) ∙ unset_kept (action_of p j).sets s v e in
                not-both (rw kept (on_range_lem p.ranges s v (omega (arith, h.inside.none-off)) few)) off

        end-told : (k : ℕ) × (high : Bool) × Due p ls g (RunOff k j v high)
        end-told = low (applies p ls j here NotBelow v) refl
          where
            high : applies p ls j here NotBelow v ≡ true → (b : Bool) → applies p ls j here NotAbove v ≡ b → (k : ℕ) × (high : Bool) × Due p ls g (RunOff k j v high)
            high shown false e = (h.node, true, (h.stored, l, follows.linked, is_set, e))
            high shown true e =
                let shows = claims p ok s h.inside j may here h.described ls good in
                let y = get_or after v (pos 0) in
                not-both (rw (le_le_z (range_at p v).low y (shows NotBelow v shown), le_le_z y (range_at p v).high (shows NotAbove v e)) refl) off

            low : (b : Bool) → applies p ls j here NotBelow v ≡ b → (k : ℕ) × (high : Bool) × Due p ls g (RunOff k j v high)
            low false e = (h.node, false, (h.stored, l, follows.linked, is_set, e))
            low true e = high e (applies p ls j here NotAbove v) refl

    told : Told p ls g s
    told = record { combinations = combination-told; run-offs = λ j v l. go j v l (step p j s) (stepped p j s) }
      where
        go : (j v : ℕ) → j < length p.actions → (o : Outcome) → Stepped p j s o → o ≡ RunsOff v → (k : ℕ) × (high : Bool) × Due p ls g (RunOff k j v high)
        go j v l NotEnabled waits e = cc
        go j v l (Moved t) (moves on q) e = cc
        go j v l (RunsOff u) (leaves on q) e =
            let same : lowest_off p.ranges (new_state (action_of p j) s) ≡ v = cc e in
            end-told j l on v (omega (arith, q, same)) (rw same at (off-there p.ranges (new_state (action_of p j) s) (after-long j l on) q))

  -- ---- along a run
  told-onward : (j : ℕ) (s : List ℤ) (o : Outcome) (go : List ℤ → Run) → j < length p.actions → Known p g s → Stepped p j s o
      → ((t : List ℤ) → Known p g t → Each (Told p ls g) (go t).states) → Each (Told p ls g) (onward s o go).states
  told-onward j s NotEnabled go l h waits f = (told s h, f s h)
  told-onward j s (Moved t) go l h (moves on q) f = (told s h, f (new_state (action_of p j) s) (known-moved s h j l on q))
  told-onward j s (RunsOff v) go l h (leaves on q) f = (told s h, tt)

  told-from : (ks : List ℕ) → Each (λ k. k < length p.actions) ks → (s : List ℤ) → Known p g s → Each (Told p ls g) (run p ks s).states
  unfolding run
  told-from [] l s h = (told s h, tt)
  told-from (k ∷ ks) l s h = told-onward k s (step p k s) (run p ks) l.0 h (stepped p k s) (told-from ks l.1)

  pub nothing-missed : (s : List ℤ) → Start p s → (ks : List ℕ) → Each (λ k. k < length p.actions) ks → Each (Told p ls g) (run p ks s).states
  nothing-missed s h ks l = told-from ks l s (known_start p ok ls good g faithful s h)
