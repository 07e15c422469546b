-- An assignment, and the loop over an action's assignments.
use mathlib.Core.Path.{◌≡◌, refl, sym, ◌∙◌}
use mathlib.Core.Bool.{Bool, true}
use mathlib.Core.List.{List, ◌∷◌}
use Prim.Native.Nat.{ℕ, suc, ◌+◌, ◌-◌, ◌≤◌, ◌<◌}
use native.Mathlib.Omega.{arith}
use native.Mathlib.Numerals.{add-one}
use lib.ListN.{length, get_or, set, drop, length-set}
use Rattle.std.specs.Prelude.{Result, Ok, Err}
use Rattle.words.specs.Words.{payload, SET}
use Rattle.words.specs.declared.Refusal.{Refusal}
use Rattle.rows.specs.declared.Row.{Row}
use Rattle.grammar.specs.Reading.{Read, got, refused, one, always, after, pure}
use Rattle.grammar.specs.Programs.{Assignment}
use Rattle.grammar.specs.Grammar.{row, assignment, sets}
use Rattle.grammar.proofs.ActionLaws.{set_allowed, assignment-out}
use Rattle.reader.specs.Results.{next_of, row_read}
use Rattle.reader.proofs.Laws.{err-out, ok-out, pair-out, head-refused, head-at}
use Rattle.reader.proofs.RowsLoop.{left_is, left-within}
use Rattle.actions.specs.declared.Assignment.{Assignment as AssignmentRead}
use Rattle.actions.specs.declared.Sets.{Sets}
use Rattle.actions.specs.NewRows.{assigned}
use Rattle.actions.specs.Results.{set_read, variables_set, sets_from, sets_read}

-- ---- an assignment from its first word and its row
module _ (vars low : ℕ) (ws : List ℕ) (at : ℕ) where
  abbrev head : ℕ
  head = get_or ws at 0

  abbrev headWord : Result ℕ Refusal
  headWord = next_of (one SET (λ x. true) (λ x. true) (λ x. set_allowed vars low head) (drop at ws) at)

  abbrev answer : Result (AssignmentRead × ℕ) Refusal
  answer = set_read (assignment vars low (drop at ws) at)

  pub set-refused : {r : Refusal} → Err r ≡ headWord → Err r ≡ answer
  unfolding assignment
  set-refused e = rw (head-refused SET always always (set_allowed vars low) ws at at _ e) refl

  module _ {i : ℕ} (e : Ok i ≡ headWord) where
    first : (at < length ws) × (i ≤ length ws) × (one SET always always (set_allowed vars low) (drop at ws) at ≡ got head (drop i ws) i)
    first = head-at SET always always (set_allowed vars low) ws at at i refl e

    pub set-within : i ≤ length ws
    set-within = first.1

    pub set-row-refused : {r : Refusal} → Err r ≡ row_read (row vars (drop i ws) i) → Err r ≡ answer
    unfolding assignment
    set-row-refused f = rw (first.2, err-out _ _ f) refl

    pub set-taken : {r : Row} {j : ℕ} → ◌≡◌ {A = Result (Row × ℕ) Refusal} (Ok (r, j)) (row_read (row vars (drop i ws) i))
        → ◌≡◌ {A = Result (AssignmentRead × ℕ) Refusal} (Ok (record { variable = payload head; row = r }, j)) answer
    unfolding assignment
    set-taken f = let (us, q) = pair-out _ f in rw (first.2, q) refl

pub set-out : (m : Read Assignment) {a : AssignmentRead} {j : ℕ} → ◌≡◌ {A = Result (AssignmentRead × ℕ) Refusal} (Ok (a, j)) (set_read m)
    → (us : List ℕ) × (m ≡ got (record { variable = a.variable; row = a.row }) us j)
set-out m h =
    let (s, us, i, q, p) = ok-out _ m h in
    (us, q ∙ (λ t. got (record { variable = (sym p t).0.variable; row = (sym p t).0.row }) us (sym p t).1))

-- ---- the loop: k assignments are made, and the words from i on are left
pub record SetsLoop (ws : List ℕ) (at n vars : ℕ) (rs : List Row) (bs : List Bool) (low i k : ℕ) : Type 0 where
  pub few : k ≤ n
  pub long : length rs ≡ 8
  pub marks : length bs ≡ 8
  pub here : i ≤ length ws
  pub same : sets_from rs bs (sets vars (n - k) low (drop i ws) i) ≡ sets_read (sets vars n 0 (drop at ws) at)

sets_more : (rs : List Row) (bs : List Bool) (s : Assignment) (m : Read (List Assignment))
    → sets_from rs bs (after m (λ ss. pure (s ∷ ss))) ≡ sets_from (set rs s.variable s.row) (set bs s.variable true) m
unfolding assigned variables_set
sets_more rs bs s (got ss ws i) = refl
sets_more rs bs s (refused x) = refl

module _ (ws : List ℕ) (at n vars : ℕ) (room : vars ≤ 8) where
  module _ {rs : List Row} {bs : List Bool} {low i k : ℕ} (t : SetsLoop ws at n vars rs bs low i k) where
    step : k < n → n - k ≡ suc (n - suc k)
    step h = omega arith

    pub sets-refused : k < n → {r : Refusal} → Err r ≡ set_read (assignment vars low (drop i ws) i) → Err r ≡ sets_read (sets vars n 0 (drop at ws) at)
    unfolding sets
    sets-refused h e = rw (← t.same, step h, err-out _ _ e) refl

    pub sets-turn : k < n → {a : AssignmentRead} {j : ℕ} → ◌≡◌ {A = Result (AssignmentRead × ℕ) Refusal} (Ok (a, j)) (set_read (assignment vars low (drop i ws) i))
        → (a.variable < 8) × SetsLoop ws at n vars (set rs a.variable a.row) (set bs a.variable true) (a.variable + 1) j (k + 1)
    unfolding sets
    sets-turn h {a} {j} f =
        let (us, e) = set-out _ f in
        let s : Assignment = record { variable = a.variable; row = a.row } in
        let o = assignment-out vars room low (drop i ws) i s us j e in
        let rest = left_is ws t.here o in (
          omega (arith, o.good.below),
          record {
            few = omega arith;
            long = length-set rs a.variable a.row ∙ t.long;
            marks = length-set bs a.variable true ∙ t.marks;
            here = left-within ws t.here o;
            same = rw (add-one k, add-one a.variable, ← t.same, step h, e, rest) (sym (sets_more rs bs s (sets vars (n - suc k) (suc a.variable) (drop j ws) j)));
          },
        )

    pub sets-ended : n ≤ k → ◌≡◌ {A = Result (Sets × ℕ) Refusal} (Ok (record { rows = rs; set = bs }, i)) (sets_read (sets vars n 0 (drop at ws) at))
    unfolding sets assigned variables_set
    sets-ended h = let none : n - k ≡ 0 = omega arith in rw (← t.same, none) refl
