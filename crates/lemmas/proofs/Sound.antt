-- An accepted lemma is true of all whole numbers in the ranges. Assumes nothing.
use mathlib.Core.Path.{◌≡◌, refl, sym, ap, ◌∙◌}
use mathlib.Core.Bool.{Bool, true, false, cond}
use mathlib.Core.List.{List, [], ◌∷◌, ◌++◌, map}
use Prim.Native.Nat.{ℕ, zero, suc, ◌-◌, ◌≤◌, ◌<◌}
use native.Mathlib.Omega.{arith}
use lib.Dec.{eqb}
use lib.IntN.{ℤ, pos, negsuc, neg_ℤ}
use lib.ListN.{length, get_or, set, length-map}
use lib.Signed.{le_z, lt_z, ◌≤ℤ◌, clash_ℤ}
use Rattle.integers.proofs.Int.{var, num, ◌⊕◌, ◌⊗◌, ⊖, below, law, le_in}
use Rattle.integers.proofs.Tests.{lt_z_true, le_z_true, le_z_false, le_le_z, and-true}
use Rattle.rows.specs.declared.Row.{Row}
use Rattle.rows.specs.declared.Range.{Range}
use Rattle.rows.specs.Rows.{row_value, negated, largest_value, holds}
use Rattle.rows.proofs.Laws.{negation, Holds, InRanges, in-none, in_one}
use Rattle.grammar.specs.Programs.{Assignment, Program}
use Rattle.grammar.specs.WellFormed.{Each, RowOk, Rising, ActionOk, WellFormed}
use Rattle.reader.specs.Results.{zero_row}
use Rattle.actions.specs.NewRows.{keep_rows, assigned}
use Rattle.programs.proofs.Places.{none_action}
use Rattle.words.specs.declared.Literals.{Literals}
use Rattle.words.specs.LiteralSets.{Literal, B, NotB, literals_in}
use Rattle.runs.specs.Runs.{all_hold, on_range, lowest_off, Inside, new_state, action_of, predicate, literal_row, literal_rows, meets}
use Rattle.runs.specs.Values.{padded}
use Rattle.runs.proofs.Trying.{first_on, value-padded}
use Rattle.runs.proofs.Sizes.{every-each, unit_value}
use Rattle.runs.proofs.NewValues.{new-values}
use Rattle.sums.specs.Sums.{combine, const_row, afterwards}
use Rattle.sums.proofs.Laws.{Eights, Hold, after-value, after-long, sum-holds, never-holds}
use Rattle.lemmas.specs.Lemmas.{Goal, CannotHappen, HoldsAfter, FailsAfter, NotBelow, NotAbove, Lemma, START, source_rows, new_rows, range_at, above_low, below_high, negated_goal, accepted}
use Rattle.lemmas.specs.LemmaGrammar.{goal_allowed, sets_variable, LemmaOk}
use Rattle.lemmas.specs.Truth.{happens, Says, True}
use Rattle.lemmas.proofs.LemmaLaws.{sets-known}

-- ---- a state on its ranges
in_ranges : (gs : List Range) (s : List ℤ) → length s ≡ length gs → length gs ≤ lowest_off gs s → InRanges gs s
unfolding lowest_off
in_ranges [] [] l h = in-none
in_ranges [] (x ∷ s) l h = absurd (omega arith)
in_ranges (g ∷ gs) [] l h = absurd (omega arith)
in_ranges (g ∷ gs) (x ∷ s) l h =
    let (on, rest) = first_on (on_range g x) h in
    let (low, high) = and-true (le_z g.low x) (le_z x g.high) on in
    in_one (le_z_true g.low x low) (le_z_true x g.high high) (in_ranges gs s (omega arith) rest)

-- ---- every row has eight coefficients
eights_rows : (vars : ℕ) (rs : List Row) → Each (RowOk vars) rs → Eights rs
eights_rows vars [] h = tt
eights_rows vars (r ∷ rs) h = (h.0.eight, eights_rows vars rs h.1)

eights_append : (xs ys : List Row) → Eights xs → Eights ys → Eights (xs ++ ys)
eights_append [] ys h k = k
eights_append (x ∷ xs) ys h k = (h.0, eights_append xs ys h.1 k)

eights_if : (b : Bool) (xs ys : List Row) → Eights xs → Eights ys → Eights (cond b xs ys)
eights_if true xs ys h k = h
eights_if false xs ys h k = k

negated-long : (r : Row) → length r.coef ≡ 8 → length (negated r).coef ≡ 8
negated-long r h = length-map r.coef neg_ℤ ∙ h

predicate-long : (vars : ℕ) (rs : List Row) (j : ℕ) → Each (RowOk vars) rs → length (get_or rs j zero_row).coef ≡ 8
predicate-long vars [] j h = refl
predicate-long vars (r ∷ rs) zero h = h.0.eight
predicate-long vars (r ∷ rs) (suc j) h = predicate-long vars rs j h.1

eights_literals : (p : Program) → WellFormed p → (ms : List Literal) → Eights (map (literal_row p) ms)
eights_literals p ok [] = tt
eights_literals p ok (B j ∷ ms) = (predicate-long (length p.ranges) p.predicates j ok.predicates.each, eights_literals p ok ms)
eights_literals p ok (NotB j ∷ ms) = (negated-long (predicate p j) (predicate-long (length p.ranges) p.predicates j ok.predicates.each), eights_literals p ok ms)

eights_set : (rs : List Row) (i : ℕ) (r : Row) → Eights rs → length r.coef ≡ 8 → Eights (set rs i r)
eights_set [] i r h k = tt
eights_set (x ∷ rs) zero r h k = (k, h.1)
eights_set (x ∷ rs) (suc i) r h k = (h.0, eights_set rs i r h.1 k)

eights_assigned : (vars v : ℕ) (rs : List Row) (ss : List Assignment) → Eights rs → Rising vars v ss → Eights (assigned rs ss)
unfolding assigned
eights_assigned vars v rs [] h k = h
eights_assigned vars v rs (x ∷ ss) h k =
    eights_assigned vars (suc x.variable) (set rs x.variable x.row) ss (eights_set rs x.variable x.row h k.0.row.eight) k.1

eights_keep : Eights keep_rows
eights_keep = (refl, (refl, (refl, (refl, (refl, (refl, (refl, (refl, tt))))))))

-- ---- rows that hold
hold-all : (rs : List Row) (s : List ℤ) → all_hold rs s ≡ true → Hold rs s
unfolding all_hold
hold-all [] s h = tt
hold-all (r ∷ rs) s h = let (a, b) = and-true (holds r s) (all_hold rs s) h in (le_z_true (pos 0) (row_value r s) a, hold-all rs s b)

hold_append : (xs ys : List Row) (s : List ℤ) → Hold xs s → Hold ys s → Hold (xs ++ ys) s
hold_append [] ys s h k = k
hold_append (x ∷ xs) ys s h k = (h.0, hold_append xs ys s h.1 k)

-- a row that cannot hold fails
pub fails : (r : Row) (s : List ℤ) → (Holds r s → ⊥) → holds r s ≡ false
fails r s f = go (holds r s) refl
  where
    go : (b : Bool) → holds r s ≡ b → holds r s ≡ false
    go true e = absurd (f (le_z_true (pos 0) (row_value r s) e))
    go false e = e

-- a row whose negation cannot hold holds
must_hold : (r : Row) (s : List ℤ) → (Holds (negated r) s → ⊥) → Holds r s
must_hold r s f = go (holds r s) refl
  where
    go : (b : Bool) → holds r s ≡ b → Holds r s
    go true e = le_z_true (pos 0) (row_value r s) e
    go false e = absurd (f ((negation r s).1 (clash_ℤ (le_z_false (pos 0) (row_value r s) e))))

-- ---- the rows of goals 3 and 4
low-holds : (p : Program) (v : ℕ) (t : List ℤ) → v < 8 → Holds (above_low p v) t → (range_at p v).low ≤ℤ get_or t v (pos 0)
low-holds p v t l h =
    let x = get_or t v (pos 0) in
    let g = (range_at p v).low in
    let k = rw (unit_value 8 v (pos 1) t l) at h in
    below (var g) (var x) (omega (arith, le_in k, law (num 0), law (num 1 ⊗ var x ⊕ ⊖ (var g))))

high-holds : (p : Program) (v : ℕ) (t : List ℤ) → v < 8 → Holds (below_high p v) t → get_or t v (pos 0) ≤ℤ (range_at p v).high
high-holds p v t l h =
    let x = get_or t v (pos 0) in
    let g = (range_at p v).high in
    let k = rw (unit_value 8 v (negsuc 0) t l) at h in
    below (var x) (var g) (omega (arith, le_in k, law (num 0), law (⊖ (num 1) ⊗ var x ⊕ var g)))

module _ (p : Program) (ok : WellFormed p) where
  abbrev vars : ℕ
  vars = length p.ranges

  action-ok : (k : ℕ) → ActionOk vars (action_of p k)
  action-ok = every-each (ActionOk vars) none_action p.actions
      (record { guards = record { few = omega arith; each = tt }; few = omega arith; rising = tt }) ok.actions.each

  eights-new : (source : ℕ) → Eights (new_rows p source)
  eights-new source = eights_assigned vars 0 keep_rows (action_of p source).sets eights_keep (action-ok source).rising

  eights-source : (source : ℕ) → Eights (source_rows p source)
  eights-source source =
      eights_if (eqb source START) p.start (action_of p source).guards
      (eights_rows vars p.start ok.start.each)
      (eights_rows vars (action_of p source).guards (action-ok source).guards.each)

  set_below : (source v : ℕ) → sets_variable (action_of p source).sets v ≡ true → v < 8
  set_below source v e = omega (arith, sets-known vars 0 (action_of p source).sets v (action-ok source).rising e, ok.ranges.few)

  module _ (s : List ℤ) (inside : Inside p s) (source : ℕ) where
    abbrev after : List ℤ
    after = new_state (action_of p source) s

    -- at a state the row afterwards is worth what the row is worth at the state afterwards
    value_after : (g : Row) → row_value (afterwards (new_rows p source) g) s ≡ row_value g after
    value_after g =
        sym (value-padded (afterwards (new_rows p source) g) s (8 - length s))
        ∙ after-value (new_rows p source) g (padded s) (eights-new source)
        ∙ ap (row_value g) (new-values vars (action_of p source).sets (action-ok source).rising s inside.long ok.ranges.few)
        ∙ value-padded g after (8 - length after)

    module _ (set : Literals) (ms : List ℕ) (premises : meets p set s ≡ true) (enabled : happens p source s ≡ true) where
      abbrev rest : List Row
      rest = literal_rows p set ++ source_rows p source

      -- the largest value of the sum of these rows and the rest is below 0
      abbrev Refuted : List Row → Type 0
      Refuted qs = lt_z (largest_value (combine (const_row (pos 0)) (map pos ms) (qs ++ rest)) p.ranges) (pos 0) ≡ true

      -- then these rows do not all hold
      cannot : (qs : List Row) → Eights qs → Refuted qs → Hold qs s → ⊥
      cannot qs long e h =
          let xs = literal_rows p set in
          let ys = source_rows p source in
          let longs = eights_append xs ys (eights_literals p ok (literals_in (length p.predicates) set.0)) (eights-source source) in
          let all = hold_append xs ys s (hold-all xs s premises) (hold-all ys s enabled) in
          let sum = combine (const_row (pos 0)) (map pos ms) (qs ++ rest) in
          never-holds sum (in_ranges p.ranges s inside.long (omega (arith, inside.none-off))) (lt_z_true (largest_value sum p.ranges) (pos 0) e)
          (sum-holds (λ k. k) ms (qs ++ rest) s (eights_append qs rest long longs) (hold_append qs rest s h all))

      -- a row whose row afterwards is refuted cannot hold afterwards
      cannot-after : (g : Row) → Refuted (afterwards (new_rows p source) g ∷ []) → Holds g after → ⊥
      cannot-after g e h =
          let a = afterwards (new_rows p source) g in
          let k : Holds a s = rw (value_after g) h in
          cannot (a ∷ []) (after-long (new_rows p source) g (eights-new source), tt) e (k, tt)

      -- goals 1, 3 and 4
      holds_after : (g : Row) → Refuted (afterwards (new_rows p source) (negated g) ∷ []) → Holds g after
      holds_after g e = must_hold g after (cannot-after (negated g) e)

      claimed : (g : Goal) (i : ℕ) → goal_allowed p source g i ≡ true → Refuted (negated_goal p source g i) → Says p g i after
      claimed CannotHappen i a e = cannot [] tt e tt
      claimed HoldsAfter i a e = le_le_z (pos 0) (row_value (predicate p i) after) (holds_after (predicate p i) e)
      claimed FailsAfter i a e = fails (predicate p i) after (cannot-after (predicate p i) e)
      claimed NotBelow i a e = low-holds p i after (set_below source i a) (holds_after (above_low p i) e)
      claimed NotAbove i a e = high-holds p i after (set_below source i a) (holds_after (below_high p i) e)

pub accepted-true : (p : Program) → WellFormed p → (l : Lemma) → LemmaOk p l → accepted p l ≡ true → True p l
accepted-true p ok l good e s inside premises enabled =
    claimed p ok s inside l.source l.premises l.multipliers premises enabled l.goal l.index good.goal e
