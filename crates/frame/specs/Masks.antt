-- The untouched predicates of each action as masks of literals. Only contracts of functions within the project cite these.
--
-- clear_below       — coefficients are zero on every variable below v that is marked
-- mask_to           — both literals of each predicate below n for which a test holds
-- mask_by           — of the predicates that leave marked variables alone
-- mask_of, masks_of — of those that an action leaves untouched; for each action of a program, 0 past the last one
use Rattle.std.specs.Prelude.{Bool, true, false, not, ◌&&◌, ◌||◌, List, ℕ, zero, suc, ◌+◌, eqb, ℤ, pos, nat_abs, length, get_or}
use Rattle.rows.specs.declared.Row.{Row}
use Rattle.rows.specs.Bounds.{no_row}
use Rattle.grammar.specs.Programs.{Action, Program}
use Rattle.actions.specs.Results.{variables_set, none_set}
use Rattle.programs.specs.Images.{table_of}
use Rattle.sets.specs.Sets.{pairs_to}

unfoldable pub clear_below : List Bool → List ℤ → ℕ → Bool
clear_below marks coef zero = true
clear_below marks coef (suc v) = clear_below marks coef v && (not (get_or marks v false) || eqb (nat_abs (get_or coef v (pos 0))) 0)

abbrev pub mask_to : (ℕ → Bool) → ℕ → ℕ
mask_to t n = pairs_to (λ j. j) (λ j. 14 + j) t n

abbrev pub mask_by : List Row → List Bool → ℕ → ℕ
mask_by rows marks n = mask_to (λ j. clear_below marks (get_or rows j no_row).coef 8) n

abbrev pub mask_of : Program → Action → ℕ
mask_of p a = mask_by p.predicates (variables_set none_set a.sets) (length p.predicates)

abbrev pub masks_of : Program → List ℕ
masks_of p = table_of (mask_of p) p
