-- That request 4 says something: the incident, where Step runs off and the rack writes, and a sum that the rack stores wrapped onto its range.
use mathlib.Core.Path.{◌≡◌, refl}
use mathlib.Core.List.{List, [], ◌∷◌}
use lib.IntN.{ℤ, pos, negsuc}
use Rattle.rows.specs.Rows.{dot}
use Rattle.grammar.specs.Reading.{due, one, times, many}
use Rattle.grammar.specs.Grammar.{program, ranges, rows, end, coefs, row, assignment, sets, action}
use Rattle.std.specs.Prelude.{Ok}
use Rattle.runs.specs.declared.Stepped.TheVariants.{Moved, RunsOff}
use Rattle.runs.specs.Runs.{all_hold, lowest_off, new_value, values_from}
use Rattle.runs.specs.Calls.{stay, step_call}
use Rattle.sixteen.specs.Sixteen.{wrapped_dot}
use Rattle.rack.specs.Rack.{rack_value, rack_run, rack_call}
use Rattle.worked.specs.Shows.{incident, incident_program, nine_times}

-- 5 take 10 is minus 5
exact_runs_off : step_call incident 0 (pos 5 ∷ []) ≡ stay (Ok (RunsOff 0)) (pos 5 ∷ [])
unfolding program ranges rows end coefs row assignment sets action due one times many lowest_off all_hold new_value values_from dot
exact_runs_off = refl

rack_writes : rack_call incident 0 (pos 5 ∷ []) ≡ record { answer = Ok Moved; state = negsuc 4 ∷ [] }
unfolding program ranges rows end coefs row assignment sets action due one times many lowest_off all_hold rack_value values_from wrapped_dot
rack_writes = refl

-- and its run goes on from there
rack_goes_on : (rack_run incident_program (0 ∷ 0 ∷ []) (pos 5 ∷ [])).states ≡ (pos 5 ∷ []) ∷ (negsuc 4 ∷ []) ∷ (negsuc 14 ∷ []) ∷ []
unfolding rack_run all_hold rack_value values_from wrapped_dot
rack_goes_on = refl

-- 4 and 5 times 8,191 is 73,719, off its range; less 65,536 it is 8,183
abbrev wide : List ℤ
wide = pos 8191 ∷ pos 8191 ∷ []

sum_runs_off : step_call nine_times 0 wide ≡ stay (Ok (RunsOff 0)) wide
unfolding program ranges rows end coefs row assignment sets action due one times many lowest_off all_hold new_value values_from dot
sum_runs_off = refl

sum_wraps : rack_call nine_times 0 wide ≡ record { answer = Ok Moved; state = pos 8183 ∷ pos 8191 ∷ [] }
unfolding program ranges rows end coefs row assignment sets action due one times many lowest_off all_hold rack_value values_from wrapped_dot
sum_wraps = refl

pub incident_racked : (step_call incident 0 (pos 5 ∷ []) ≡ stay (Ok (RunsOff 0)) (pos 5 ∷ [])) × (rack_call incident 0 (pos 5 ∷ []) ≡ record { answer = Ok Moved; state = negsuc 4 ∷ [] })
    × ((rack_run incident_program (0 ∷ 0 ∷ []) (pos 5 ∷ [])).states ≡ (pos 5 ∷ []) ∷ (negsuc 4 ∷ []) ∷ (negsuc 14 ∷ []) ∷ [])
    × ((step_call nine_times 0 wide ≡ stay (Ok (RunsOff 0)) wide) × (rack_call nine_times 0 wide ≡ record { answer = Ok Moved; state = pos 8183 ∷ pos 8191 ∷ [] }))
incident_racked = (exact_runs_off, rack_writes, rack_goes_on, (sum_runs_off, sum_wraps))
