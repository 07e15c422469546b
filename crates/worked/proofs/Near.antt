-- That request 5 says something: Fade's action at 0, of both steps, and three rows of which two fail.
use mathlib.Core.Path.{◌≡◌, refl}
use mathlib.Core.List.{[], ◌∷◌}
use lib.IntN.{pos, negsuc}
use Rattle.rows.specs.Rows.{dot}
use Rattle.grammar.specs.Reading.{due, one, times, many}
use Rattle.grammar.specs.Grammar.{program, ranges, rows, end, coefs, row, assignment, sets, action}
use Rattle.std.specs.Prelude.{Ok}
use Rattle.runs.specs.declared.Stepped.TheVariants.{NotEnabled}
use Rattle.runs.specs.Runs.{all_hold, lowest_off}
use Rattle.runs.specs.Guards.{first_failing}
use Rattle.runs.specs.Calls.{stay, step_call}
use Rattle.rack.specs.Rack.{rack_call}
use Rattle.worked.specs.Shows.{fade, row2}

-- 0 lacks 5
exact-near : step_call fade 0 (pos 0 ∷ []) ≡ stay (Ok (NotEnabled (record { row = 0; value = negsuc 4 }))) (pos 0 ∷ [])
unfolding program ranges rows end coefs row assignment sets action due one times many lowest_off all_hold first_failing dot
exact-near = refl

rack_near : rack_call fade 0 (pos 0 ∷ []) ≡ stay (Ok (NotEnabled (record { row = 0; value = negsuc 4 }))) (pos 0 ∷ [])
unfolding program ranges rows end coefs row assignment sets action due one times many lowest_off all_hold first_failing dot
rack_near = refl

-- at 5: x - 5 is 0 and holds, x - 10 lacks 5, x - 14 lacks 9
rows-near : first_failing (row2 (pos 1) (pos 0) (negsuc 4) ∷ row2 (pos 1) (pos 0) (negsuc 9) ∷ row2 (pos 1) (pos 0) (negsuc 13) ∷ []) (pos 5 ∷ []) ≡ record { row = 1; value = negsuc 4 }
unfolding first_failing dot
rows-near = refl

pub near-worked : (step_call fade 0 (pos 0 ∷ []) ≡ stay (Ok (NotEnabled (record { row = 0; value = negsuc 4 }))) (pos 0 ∷ []))
    × (rack_call fade 0 (pos 0 ∷ []) ≡ stay (Ok (NotEnabled (record { row = 0; value = negsuc 4 }))) (pos 0 ∷ []))
    × (first_failing (row2 (pos 1) (pos 0) (negsuc 4) ∷ row2 (pos 1) (pos 0) (negsuc 9) ∷ row2 (pos 1) (pos 0) (negsuc 13) ∷ []) (pos 5 ∷ []) ≡ record { row = 1; value = negsuc 4 })
near-worked = (exact-near, rack_near, rows-near)
