-- Lemmas as plain values, the rows that each is about, and when it is accepted.
--
-- Goal                  — what a lemma says of its index
-- goal_number, goal_of  — a goal's number in a LEMMA word; the goal of a number
-- Lemma                 — source, goal and index, premises, multipliers
-- source_rows           — the rows of the source
-- new_rows              — each variable's row afterwards
-- range_at              — the range of a variable
-- above_low, below_high — the rows of goals 3 and 4
-- negated_goal          — the negated goal's row; none where the source cannot happen
-- rows_of               — the rows of a lemma, each with its multiplier
-- total                 — their sum
-- largest_of, accepted  — its largest value over the ranges; it is below 0
use Rattle.std.specs.Prelude.{Bool, cond, List, [], ◌∷◌, ◌++◌, map, ℕ, zero, suc, eqb, ℤ, pos, negsuc, neg_ℤ, get_or, set, replicate}
use Rattle.std.specs.Int.Signed.{lt_z}
pub use Rattle.words.specs.Limits.{START}
use Rattle.words.specs.declared.Literals.{Literals}
use Rattle.rows.specs.declared.Row.{Row}
use Rattle.rows.specs.declared.Range.{Range}
use Rattle.rows.specs.Rows.{negated, largest_value, zero_range}
use Rattle.grammar.specs.Programs.{Program}
use Rattle.actions.specs.NewRows.{keep_rows, assigned}
use Rattle.runs.specs.Runs.{action_of, predicate, literal_rows}
use Rattle.sums.specs.Sums.{combine, const_row, afterwards}

-- 0 the source cannot happen; 1 predicate index holds afterwards; 2 it fails afterwards; 3 variable index is not below its low end
-- afterwards; 4 not above its high end.
pub data Goal : Type 0 where
  CannotHappen : Goal
  HoldsAfter : Goal
  FailsAfter : Goal
  NotBelow : Goal
  NotAbove : Goal

abbrev pub goal_number : Goal → ℕ
goal_number CannotHappen = 0
goal_number HoldsAfter = 1
goal_number FailsAfter = 2
goal_number NotBelow = 3
goal_number NotAbove = 4

-- of a number from 0 to 4: what is above is refused before
abbrev pub goal_of : ℕ → Goal
goal_of zero = CannotHappen
goal_of (suc zero) = HoldsAfter
goal_of (suc (suc zero)) = FailsAfter
goal_of (suc (suc (suc zero))) = NotBelow
goal_of (suc (suc (suc (suc n)))) = NotAbove

pub record Lemma : Type 0 where
  pub source : ℕ
  pub goal : Goal
  pub index : ℕ
  pub premises : Literals
  pub multipliers : List ℕ

-- Each row of the source: an action's guard rows, or the start rows.
abbrev pub source_rows : Program → ℕ → List Row
source_rows p source = cond (eqb source START) p.start (action_of p source).guards

-- "Afterwards" puts the action's assignments into the row; for the start, which is no action's number, nothing changes.
abbrev pub new_rows : Program → ℕ → List Row
new_rows p source = assigned keep_rows (action_of p source).sets

abbrev pub range_at : Program → ℕ → Range
range_at p v = get_or p.ranges v zero_range

-- The row of goal 3 is the variable minus its low end; that of goal 4 is its high end minus the variable.
abbrev pub above_low : Program → ℕ → Row
above_low p v = record { coef = set (replicate 8 (pos 0)) v (pos 1); constant = neg_ℤ (range_at p v).low }

abbrev pub below_high : Program → ℕ → Row
below_high p v = record { coef = set (replicate 8 (pos 0)) v (negsuc 0); constant = (range_at p v).high }

-- The goal is negated and then put through the assignments; the negation of "it fails" is the predicate itself.
abbrev pub negated_goal : Program → ℕ → Goal → ℕ → List Row
negated_goal p source CannotHappen i = []
negated_goal p source HoldsAfter i = afterwards (new_rows p source) (negated (predicate p i)) ∷ []
negated_goal p source FailsAfter i = afterwards (new_rows p source) (predicate p i) ∷ []
negated_goal p source NotBelow i = afterwards (new_rows p source) (negated (above_low p i)) ∷ []
negated_goal p source NotAbove i = afterwards (new_rows p source) (negated (below_high p i)) ∷ []

-- One MULT each for: the negated goal, each premise by rising predicate, each row of the source.
abbrev pub rows_of : Program → Lemma → List Row
rows_of p l = negated_goal p l.source l.goal l.index ++ (literal_rows p l.premises ++ source_rows p l.source)

-- Each row of a lemma is multiplied by its number and all are added.
abbrev pub total : Program → Lemma → Row
total p l = combine (const_row (pos 0)) (map pos l.multipliers) (rows_of p l)

-- The lemma is accepted exactly when the sum's largest value over the ranges is below 0.
abbrev pub largest_of : Program → Lemma → ℤ
largest_of p l = largest_value (total p l) p.ranges

abbrev pub accepted : Program → Lemma → Bool
accepted p l = lt_z (largest_of p l) (pos 0)
