-- The rows and multipliers of a lemma as the code has them: the goal's row from the arrays of an image, and the numbers in the MULT words.
use mathlib.Core.Path.{◌≡◌, refl, ap, ◌∙◌}
use mathlib.Core.Bool.{Bool, true, false}
use mathlib.Core.List.{List, [], ◌∷◌, ◌++◌, map}
use Prim.Native.Nat.{ℕ, suc, ◌%◌, ◌≤◌, ◌<◌}
use native.Mathlib.Omega.{arith}
use lib.IntN.{ℤ, pos, negsuc}
use lib.ListN.{length, get_or, set, replicate}
use lib.Seq.{sets}
use borrow.Author.Tests.{ltb-true, eqb-true}
use Rattle.integers.proofs.Fill.{same_default}
use Rattle.integers.proofs.Laws.{Within, within_weaken, opposite, literal}
use Rattle.words.specs.Words.{word, MULT}
use Rattle.rows.specs.declared.Row.{Row}
use Rattle.rows.specs.declared.Range.{Range}
use Rattle.rows.specs.Rows.{zero_range}
use Rattle.rows.specs.Bounds.{AllWithin, SmallRange, Read, no_row}
use Rattle.grammar.specs.Programs.{Program}
use Rattle.grammar.specs.Encoding.{concat}
use Rattle.grammar.specs.WellFormed.{Each, WellFormed}
use Rattle.reader.specs.Results.{zero_row, zero_rows}
use Rattle.programs.specs.Images.{zero_ranges}
use Rattle.programs.proofs.Places.{stored_at}
use Rattle.runs.specs.Runs.{action_of, predicate}
use Rattle.runs.proofs.Sizes.{every_set, zeros-small}
use Rattle.sums.specs.Sums.{add_scaled, combine, const_row}
use Rattle.acceptance.specs.Adding.{mult_of, goal_rows}
use Rattle.lemmas.specs.Lemmas.{Goal, CannotHappen, HoldsAfter, FailsAfter, NotBelow, NotAbove, goal_number, range_at, new_rows, negated_goal}
use Rattle.lemmas.specs.LemmaGrammar.{goal_allowed, sets_variable, encode_multiplier}
use Rattle.lemmas.proofs.LemmaLaws.{sets-known, action-rising}
use Rattle.ask.specs.Weighing.{end_row, against}

-- ---- multipliers
mult_is : (m : ℕ) → m ≤ 65535 → mult_of (word MULT m) ≡ pos m
mult_is m h = let e : word MULT m % 65536 ≡ m = omega arith in ap pos e

none_added : (s : Row) (ks : List ℤ) → combine s ks [] ≡ s
unfolding combine
none_added s [] = refl
none_added s (k ∷ ks) = refl

-- MULT words, and what stands behind them
pub multiplied : (s : Row) (ms us : List ℕ) (rs : List Row) → length ms ≡ length rs → Each (λ m. m ≤ 65535) ms
    → combine s (map mult_of (concat encode_multiplier ms ++ us)) rs ≡ combine s (map pos ms) rs
unfolding combine concat
multiplied s [] us [] e p = none_added s (map mult_of us)
multiplied s [] us (r ∷ rs) e p = absurd (omega arith)
multiplied s (m ∷ ms) us [] e p = absurd (omega arith)
multiplied s (m ∷ ms) us (r ∷ rs) e p =
    ap (λ (k : ℤ). combine (add_scaled s k r) (map mult_of (concat encode_multiplier ms ++ us)) rs) (mult_is m p.0) ∙ multiplied (add_scaled s (pos m) r) ms us rs (omega arith) p.1

pub mults_length : (ms : List ℕ) → length (concat encode_multiplier ms) ≡ length ms
unfolding concat
mults_length [] = refl
mults_length (m ∷ ms) = ap suc (mults_length ms)

-- ---- the goal's row
module _ (p : Program) (ok : WellFormed p) (s : ℕ) where
  predicate-at : (i : ℕ) → i < length p.predicates → get_or (sets zero_rows 0 p.predicates) i no_row ≡ predicate p i
  predicate-at i h = stored_at 14 zero_row p.predicates i no_row h ok.predicates.few ∙ same_default p.predicates i no_row (const_row (pos 0)) h

  range_at_lem : (v : ℕ) → v < length p.ranges → get_or (sets zero_ranges 0 p.ranges) v zero_range ≡ range_at p v
  range_at_lem v h = stored_at 8 zero_range p.ranges v zero_range h ok.ranges.few

  set_known : (v : ℕ) → sets_variable (action_of p s).sets v ≡ true → v < length p.ranges
  set_known v e = sets-known (length p.ranges) 0 (action_of p s).sets v (action-rising (length p.ranges) p.actions s ok.actions.each) e

  pub negated-is : (g : Goal) (i : ℕ) → goal_allowed p s g i ≡ true
      → goal_rows (against (sets zero_ranges 0 p.ranges) (sets zero_rows 0 p.predicates) (new_rows p s) (goal_number g) i) ≡ negated_goal p s g i
  negated-is CannotHappen i e = refl
  negated-is HoldsAfter i e = rw (predicate-at i (ltb-true i (length p.predicates) e)) refl
  negated-is FailsAfter i e = rw (predicate-at i (ltb-true i (length p.predicates) e)) refl
  negated-is NotBelow i e = rw (range_at_lem i (set_known i e)) refl
  negated-is NotAbove i e = rw (range_at_lem i (set_known i e)) refl

  pub index-few : (g : Goal) (i : ℕ) → goal_allowed p s g i ≡ true → (goal_number g ≤ 2 → i < 14) × (2 < goal_number g → i < 8)
  index-few CannotHappen i e = (λ l. omega (arith, eqb-true i 0 e), λ l. absurd (omega arith))
  index-few HoldsAfter i e = (λ l. omega (arith, ltb-true i (length p.predicates) e, ok.predicates.few), λ l. absurd (omega arith))
  index-few FailsAfter i e = (λ l. omega (arith, ltb-true i (length p.predicates) e, ok.predicates.few), λ l. absurd (omega arith))
  index-few NotBelow i e = (λ l. absurd (omega arith), λ l. omega (arith, set_known i e, ok.ranges.few))
  index-few NotAbove i e = (λ l. absurd (omega arith), λ l. omega (arith, set_known i e, ok.ranges.few))

-- ---- the rows of the ends, in bounds
unit_small : (v : ℕ) (k : ℤ) → Within 1000 k → AllWithin 1000 (set (replicate 8 (pos 0)) v k)
unit_small v k h = every_set (Within 1000) (pos 0) (replicate 8 (pos 0)) v k zeros-small h

pub end_read : (g : Range) (low : Bool) (v : ℕ) → SmallRange g → Read (end_row g low v)
end_read g true v h = record { coefs = unit_small v (pos 1) (literal tt tt); const = within_weaken (omega arith) (opposite h.low) }
end_read g false v h = record { coefs = unit_small v (negsuc 0) (literal tt tt); const = within_weaken (omega arith) h.high }
