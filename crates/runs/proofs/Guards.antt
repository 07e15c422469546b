-- The first guard row that fails: one turn of the loop that looks for it; that it is near; and that an action is enabled exactly where there is none.
use mathlib.Core.Path.{◌≡◌, refl, sym, ap, subst, ◌∙◌}
use mathlib.Core.Bool.{Bool, true, false, cond, ◌&&◌}
use mathlib.Core.Logic.{◌↔◌}
use mathlib.Core.List.{List, [], ◌∷◌, ◌++◌}
use Prim.Native.Nat.{ℕ, suc, ◌+◌, ◌≤◌, ◌<◌}
use native.Mathlib.Omega.{arith}
use native.Mathlib.Numerals.{add-one}
use lib.Dec.{ltb}
use lib.IntN.{ℤ, pos}
use lib.Signed.{le_z, lt_z, ◌<ℤ◌, ◌≤ℤ◌}
use lib.ListN.{length, get_or, drop, replicate, drop_of_length-le}
use lib.Seq.{drop-cons}
use Rattle.integers.proofs.Tests.{lt_z_true, lt_z_false, lt_le_z, le_le_z, le_z_true, le_z_false, false-true, and-true}
use Rattle.std.specs.Prelude.{Some, None, Result, Ok}
use Rattle.words.specs.declared.Refusal.{Refusal}
use Rattle.rows.specs.declared.Row.{Row}
use Rattle.rows.specs.Rows.{row_value, holds}
use Rattle.rows.specs.Bounds.{no_row}
use Rattle.grammar.specs.Reading.{Read, got, refused}
use Rattle.grammar.specs.Programs.{Program}
use Rattle.runs.specs.declared.Failing.{Failing}
use Rattle.runs.specs.declared.Stepped.{Stepped}
use Rattle.runs.specs.declared.Stepped.TheVariants.{NotEnabled as Lacking}
use Rattle.runs.specs.Runs.{Outcome, Moved, NotEnabled, RunsOff, all_hold, lowest_off, enabled, new_state, landed, action_of, step}
use Rattle.runs.specs.Values.{where_failing}
use Rattle.runs.specs.Guards.{later, first_failing, Near, Guarded}
use Rattle.runs.specs.Calls.{outcome, answered}
use Rattle.runs.proofs.Trying.{value-padded}

pub below_fails : (z : ℤ) → lt_z z (pos 0) ≡ true → le_z (pos 0) z ≡ false
below_fails z h = lt_le_z (pos 0) z (lt_z_true z (pos 0) h)

pub above_holds : (z : ℤ) → lt_z z (pos 0) ≡ false → le_z (pos 0) z ≡ true
above_holds z h = le_le_z (pos 0) z (lt_z_false z (pos 0) h)

-- ---- the loop
-- k rows that hold, and then the first of the others that fails
abbrev pub past : ℕ → Failing → Failing
past k f = record { row = k + f.row; value = f.value }

abbrev at_row : ℕ → ℤ → Failing
at_row k v = record { row = k; value = v }

module _ (rs : List Row) (x : List ℤ) (k : ℕ) where
  module _ (l : k < length rs) where
    abbrev row : Row
    row = get_or rs k no_row

    here : first_failing (drop k rs) x ≡ cond (holds row x) (later (first_failing (drop (suc k) rs) x)) (record { row = 0; value = row_value row x })
    unfolding first_failing
    here = rw (drop-cons rs k no_row l) refl

    pub failing-on : past k (first_failing (drop k rs) x) ≡ first_failing rs x → holds row x ≡ true → past (k + 1) (first_failing (drop (k + 1) rs) x) ≡ first_failing rs x
    failing-on e h = let f = first_failing (drop (suc k) rs) x in rw (add-one k) (ap (λ (n : ℕ). at_row n f.value) (omega arith) ∙ ap (past k) (sym (rw h at here)) ∙ e)

    pub failing-stop : past k (first_failing (drop k rs) x) ≡ first_failing rs x → holds row x ≡ false → record { row = k; value = row_value row x } ≡ first_failing rs x
    failing-stop e h = ap (λ (n : ℕ). at_row n (row_value row x)) (omega arith) ∙ ap (past k) (sym (rw h at here)) ∙ e

  pub failing-end : length rs ≤ k → past k (first_failing (drop k rs) x) ≡ first_failing rs x → record { row = k; value = pos 0 } ≡ first_failing rs x
  unfolding first_failing
  failing-end h e = let f : past k (first_failing (drop k rs) x) ≡ record { row = k; value = pos 0 } = rw (drop_of_length-le rs {i = k} h) (ap (λ (n : ℕ). at_row n (pos 0)) (omega arith)) in sym f ∙ e

pub where-fails : {f g : Failing} → f ≡ g → le_z (pos 0) f.value ≡ false → Some f ≡ where_failing g
where-fails {f} e h = rw (← e, h) refl

pub none-failing : (f : Failing) → where_failing f ≡ None → le_z (pos 0) f.value ≡ true
none-failing f e = go (le_z (pos 0) f.value) refl e
  where
    go : (b : Bool) → le_z (pos 0) f.value ≡ b → cond b None (Some f) ≡ None → le_z (pos 0) f.value ≡ true
    go true h g = h
    go false h g = let z : ◌≡◌ {A = ℕ} 0 1 = cc g in absurd (omega arith)

pub failing_padded : (rs : List Row) (xs : List ℤ) (n : ℕ) → first_failing rs (xs ++ replicate n (pos 0)) ≡ first_failing rs xs
unfolding first_failing
failing_padded [] xs n = refl
failing_padded (r ∷ rs) xs n = rw (value-padded r xs n, failing_padded rs xs n) refl

-- ---- what it says
-- all hold exactly where its value is at least 0
pub none-fails : (rs : List Row) (s : List ℤ) → le_z (pos 0) (first_failing rs s).value ≡ all_hold rs s
unfolding first_failing all_hold
none-fails [] s = refl
none-fails (r ∷ rs) s = pick (holds r s) refl (first_failing rs s) (none-fails rs s)
  where
    pick : (b : Bool) → holds r s ≡ b → (f : Failing) → le_z (pos 0) f.value ≡ all_hold rs s
        → le_z (pos 0) (cond b (later f) (record { row = 0; value = row_value r s })).value ≡ (b && all_hold rs s)
    pick true h f e = e
    pick false h f e = h

-- and where one fails, it is the one that the sentence names
near : (rs : List Row) (s : List ℤ) → all_hold rs s ≡ false → Near rs s (first_failing rs s)
unfolding first_failing all_hold
near [] s h = false-true (sym h)
near (r ∷ rs) s h = pick (holds r s) refl h (near rs s)
  where
    one_more : {f : Failing} → holds r s ≡ true → Near rs s f → Near (r ∷ rs) s (later f)
    one_more on n =
        record {
          before = r ∷ n.before;
          fails = n.fails;
          after = n.after;
          rows_are = ap (λ (l : List Row). r ∷ l) n.rows_are;
          number = ap suc n.number;
          before-hold = rw (on, n.before-hold) refl;
          value-is = n.value-is;
          below = n.below;
        }

    pick : (b : Bool) → holds r s ≡ b → (b && all_hold rs s) ≡ false → (all_hold rs s ≡ false → Near rs s (first_failing rs s))
        → Near (r ∷ rs) s (cond b (later (first_failing rs s)) (record { row = 0; value = row_value r s }))
    pick true on e rest = one_more on (rest e)
    pick false off e rest =
        record { before = []; fails = r; after = rs; rows_are = refl; number = refl; before-hold = refl; value-is = refl; below = le_z_false (pos 0) (row_value r s) off }

-- nothing else is near
found : (bs : List Row) (r : Row) (cs : List Row) (s : List ℤ) → all_hold bs s ≡ true → holds r s ≡ false
    → (all_hold (bs ++ (r ∷ cs)) s ≡ false) × (record { row = length bs; value = row_value r s } ≡ first_failing (bs ++ (r ∷ cs)) s)
unfolding first_failing all_hold
found [] r cs s on off = rw off (refl, refl)
found (b ∷ bs) r cs s on off =
    let (h, rest) = and-true (holds b s) (all_hold bs s) on in
    let (some, same) = found bs r cs s rest off in
    rw (h, some) (refl, ap later same)

near-only : (rs : List Row) (s : List ℤ) (f : Failing) → Near rs s f → (all_hold rs s ≡ false) × (f ≡ first_failing rs s)
near-only rs s f n =
    let (some, same) = found n.before n.fails n.after s n.before-hold (lt_le_z (pos 0) (row_value n.fails s) (rw n.value-is at n.below)) in
    rw n.rows_are (some, (λ i. record { row = n.number i; value = n.value-is i }) ∙ same)

pub first_failing_lem : (rs : List Row) (s : List ℤ) → ((all_hold rs s ≡ true) ↔ (pos 0 ≤ℤ (first_failing rs s).value))
    × ((f : Failing) → Near rs s f ↔ ((all_hold rs s ≡ false) × (f ≡ first_failing rs s)))
first_failing_lem rs s =
    let e = none-fails rs s in (
      (λ h. le_z_true (pos 0) (first_failing rs s).value (e ∙ h), λ h. sym e ∙ le_le_z (pos 0) (first_failing rs s).value h),
      λ f. (near-only rs s f, λ h. subst (Near rs s) (sym h.1) (near rs s h.0)),
    )

-- ---- what an answer says
-- of any step function that answers not enabled exactly where the action isn't
pub guarded : (f : Program → ℕ → List ℤ → Outcome) (g : Program → Outcome) (k : ℕ) (s : List ℤ) → ((p : Program) → f p k s ≡ cond (enabled (action_of p k) s) (g p) NotEnabled)
    → ((p : Program) → g p ≡ NotEnabled → ⊥) → (m : Read Program) → Guarded m k s (answered f m k s).answer
guarded f g k s is never (refused r) = refl
guarded f g k s is never (got p us i) = subst (λ (o : Outcome). Guarded (got p us i) k s (outcome (action_of p k).guards o s).answer) (sym (is p)) (go (enabled (action_of p k) s) refl (g p) (never p))
  where
    go : (on : Bool) → enabled (action_of p k) s ≡ on → (o : Outcome) → (o ≡ NotEnabled → ⊥) → Guarded (got p us i) k s (outcome (action_of p k).guards (cond on o NotEnabled) s).answer
    go true h (Moved t) n = h
    go true h NotEnabled n = absurd (n refl)
    go true h (RunsOff v) n = h
    go false h o n = near (action_of p k).guards s h

lands : (off : Bool) (v : ℕ) (t : List ℤ) → cond off (RunsOff v) (Moved t) ≡ NotEnabled → ⊥
lands true v t e = let z : ◌≡◌ {A = ℕ} 0 1 = cc e in absurd (omega arith)
lands false v t e = let z : ◌≡◌ {A = ℕ} 0 1 = cc e in absurd (omega arith)

pub step-guarded : (m : Read Program) (k : ℕ) (s : List ℤ) → Guarded m k s (answered step m k s).answer
step-guarded m k s =
    guarded step (λ p. landed p.ranges (new_state (action_of p k) s)) k s (λ p. refl)
    (λ p. let t = new_state (action_of p k) s in lands (ltb (lowest_off p.ranges t) (length p.ranges)) (lowest_off p.ranges t) t) m

pub guarded-below : (m : Read Program) (k : ℕ) (s : List ℤ) {a : Result Stepped Refusal} → Guarded m k s a → (f : Failing) → a ≡ Ok (Lacking f) → f.value <ℤ pos 0
guarded-below m k s {a} g f e = go m (subst (Guarded m k s) e g)
  where
    go : (m : Read Program) → Guarded m k s (Ok (Lacking f)) → f.value <ℤ pos 0
    go (refused r) h = let z : ◌≡◌ {A = ℕ} 0 1 = cc h in absurd (omega arith)
    go (got p us i) h = h.below

-- a contract's three clauses
pub told : (f : Program → ℕ → List ℤ → Outcome) (m : Read Program) (k : ℕ) (s : List ℤ) → Guarded m k s (answered f m k s).answer → {a : Result Stepped Refusal} {t : List ℤ}
    → a ≡ (answered f m k s).answer → t ≡ (answered f m k s).state → (a ≡ (answered f m k s).answer) × (t ≡ (answered f m k s).state) × Guarded m k s a
told f m k s g e h = (e, h, subst (Guarded m k s) (sym e) g)
