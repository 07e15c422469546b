-- Each variable's new value as a row over the old ones.
--
-- keep_row, keep_rows — the row that is worth the variable itself; that row for each of the eight variables
-- assigned            — each variable's row after assignments: the last one's, or the row that was there
use Rattle.std.specs.Prelude.{List, [], ◌∷◌, ℕ, pos, set, replicate}
use Rattle.rows.specs.declared.Row.{Row}
use Rattle.grammar.specs.Programs.{Assignment}

abbrev pub keep_row : ℕ → Row
keep_row v = record { coef = set (replicate 8 (pos 0)) v (pos 1); constant = pos 0 }

abbrev pub keep_rows : List Row
keep_rows = keep_row 0 ∷ keep_row 1 ∷ keep_row 2 ∷ keep_row 3 ∷ keep_row 4 ∷ keep_row 5 ∷ keep_row 6 ∷ keep_row 7 ∷ []

unfoldable pub assigned : List Row → List Assignment → List Row
assigned rs [] = rs
assigned rs (s ∷ ss) = assigned (set rs s.variable s.row) ss
