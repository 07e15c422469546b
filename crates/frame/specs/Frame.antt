-- Request 1: the predicates that an action leaves untouched, its frame.
--
-- zero_on   — a row has a zero coefficient on every variable that some assignments set
-- untouched — there is an action of that number, and a predicate's row has a zero coefficient on every variable that it sets
use Rattle.std.specs.Prelude.{Bool, true, ◌&&◌, List, [], ◌∷◌, ℕ, eqb, ltb, pos, nat_abs, length, get_or}
use Rattle.rows.specs.declared.Row.{Row}
use Rattle.grammar.specs.Programs.{Assignment, Program}
use Rattle.runs.specs.Runs.{action_of, predicate}

unfoldable pub zero_on : List Assignment → Row → Bool
zero_on [] r = true
zero_on (x ∷ xs) r = eqb (nat_abs (get_or r.coef x.variable (pos 0))) 0 && zero_on xs r

-- The start is no action: it leaves nothing untouched.
abbrev pub untouched : Program → ℕ → ℕ → Bool
untouched p k j = ltb k (length p.actions) && zero_on (action_of p k).sets (predicate p j)
