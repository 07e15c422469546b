-- The sum of a lemma's rows, row by row. Only contracts of functions within the project cite these.
--
-- mult_of    — the number in a MULT word
-- add_row    — a row more, times the number in the next MULT word
-- add_rows   — some rows more
-- goal_rows  — the negated goal's row if there is a goal
-- lemma_rows — that, the premises' rows and the source's
-- Fine       — how large the sum's numbers are with the goal's row and k rows more
use Rattle.std.specs.Prelude.{Option, Some, None, List, [], ◌∷◌, ◌++◌, ℕ, ◌+◌, ◌*◌, ◌%◌, ℤ, pos, get_or}
use Rattle.rows.specs.declared.Row.{Row}
use Rattle.sums.specs.Sums.{add_scaled}
use Rattle.rows.specs.Bounds.{Room}
use Rattle.runs.specs.Values.{premise_rows}
use Rattle.acceptance.specs.declared.Sum.{Sum}

abbrev pub mult_of : ℕ → ℤ
mult_of w = pos (w % 65536)

abbrev pub add_row : List ℕ → Sum → Row → Sum
add_row ws t r = record { row = add_scaled t.row (mult_of (get_or ws t.used 0)) r; used = t.used + 1 }

unfoldable pub add_rows : List ℕ → Sum → List Row → Sum
add_rows ws t [] = t
add_rows ws t (r ∷ rs) = add_rows ws (add_row ws t r) rs

abbrev pub goal_rows : Option Row → List Row
goal_rows None = []
goal_rows (Some q) = q ∷ []

abbrev pub lemma_rows : Option Row → List Row → ℕ → List Row → List Row
lemma_rows goal preds set rows = goal_rows goal ++ (premise_rows 0 preds set ++ rows)

-- every row times at most 65,535
abbrev pub Fine : ℕ → Row → Type 0
Fine k r = Room (65535 * 8000000 + k * 65535000) (65535 * 8001000001 + k * 65535065535) r
