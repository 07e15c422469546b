-- What the readers of assignments and actions give, by what the grammar says.
--
-- set_read                — an assignment and where reading goes on
-- variables_set, none_set — which variables are set, on top of others; no variable is
-- sets_from               — assignments put on top of given rows and variables
-- sets_read               — assignments put on top of the rows that keep every variable
-- action_image            — an action's guard rows and each variable's row
-- action_read             — those and where reading goes on
use Rattle.std.specs.Prelude.{Bool, true, false, List, [], ◌∷◌, ℕ, length, set, replicate, Result}
use Rattle.std.proofs.lemmas.List.Edits.{sets}
use Rattle.words.specs.declared.Refusal.{Refusal}
use Rattle.rows.specs.declared.Row.{Row}
use Rattle.grammar.specs.Reading.{Read}
use Rattle.grammar.specs.Programs.{Assignment, Action}
use Rattle.reader.specs.Results.{outcome, zero_rows}
use Rattle.actions.specs.NewRows.{keep_rows, assigned}
use Rattle.actions.specs.declared.Assignment.{Assignment as AssignmentRead}
use Rattle.actions.specs.declared.Sets.{Sets}
use Rattle.actions.specs.declared.Action.{Action as ActionRead}

abbrev pub set_read : Read Assignment → Result (AssignmentRead × ℕ) Refusal
set_read m = outcome (λ s i. (record { variable = s.variable; row = s.row }, i)) m

unfoldable pub variables_set : List Bool → List Assignment → List Bool
variables_set bs [] = bs
variables_set bs (s ∷ ss) = variables_set (set bs s.variable true) ss

abbrev pub none_set : List Bool
none_set = replicate 8 false

abbrev pub sets_from : List Row → List Bool → Read (List Assignment) → Result (Sets × ℕ) Refusal
sets_from rs bs m = outcome (λ ss i. (record { rows = assigned rs ss; set = variables_set bs ss }, i)) m

abbrev pub sets_read : Read (List Assignment) → Result (Sets × ℕ) Refusal
sets_read m = sets_from keep_rows none_set m

abbrev pub action_image : Action → ActionRead
action_image a =
    record {
      guards = length a.guards;
      guard = sets zero_rows 0 a.guards;
      rows = assigned keep_rows a.sets;
      set = variables_set none_set a.sets;
    }

abbrev pub action_read : Read Action → Result (ActionRead × ℕ) Refusal
action_read m = outcome (λ a i. (action_image a, i)) m
