-- That the definitions say something: the words of Fade, House and the incident are these programs; Fade and House have start states, and the
-- safety statement is false of the logic that takes 10 off a level of 5, so Judge never says that it is safe.
use mathlib.Core.Path.{◌≡◌, refl}
use mathlib.Core.List.{List, [], ◌∷◌}
use Prim.Native.Nat.{ℕ}
use native.Mathlib.Omega.{arith}
use lib.IntN.{pos}
use lib.ListN.{length}
use Rattle.rows.specs.Rows.{dot}
use Rattle.grammar.specs.Reading.{got, due, one, times, many}
use Rattle.grammar.specs.Grammar.{program, ranges, rows, end, coefs, row, assignment, sets, action}
use Rattle.programs.specs.Calls.{read}
use Rattle.runs.specs.Runs.{Start, all_hold, lowest_off, new_value, values_from, run, Safe, RanOff}
use Rattle.judge.specs.Calls.{judge}
use Rattle.judge.specs.declared.Judged.TheVariants.{Safe as IsSafe}
use Rattle.std.specs.Prelude.{Ok}
use Rattle.judge.proofs.Promised.{judge-safe}
use Rattle.worked.specs.Shows.{fade, house, incident, fade_program, house_program, incident_program}

-- ---- the words are these programs
pub fade-read : read fade ≡ got fade_program [] (length fade)
unfolding program ranges rows end coefs row assignment sets action due one times many
fade-read = refl

pub house-read : read house ≡ got house_program [] (length house)
unfolding program ranges rows end coefs row assignment sets action due one times many
house-read = refl

pub incident-read : read incident ≡ got incident_program [] (length incident)
unfolding program ranges rows end coefs row assignment sets action due one times many
incident-read = refl

-- ---- start states
pub fade_starts : Start fade_program (pos 400 ∷ [])
unfolding lowest_off all_hold
fade_starts = record { inside = record { long = refl; none-off = refl }; meets = refl }

pub house_starts : Start house_program (pos 0 ∷ pos 0 ∷ [])
unfolding lowest_off all_hold dot
house_starts = record { inside = record { long = refl; none-off = refl }; meets = refl }

incident_starts : Start incident_program (pos 5 ∷ [])
unfolding lowest_off all_hold dot
incident_starts = record { inside = record { long = refl; none-off = refl }; meets = refl }

runs_off_lem : (run incident_program (0 ∷ []) (pos 5 ∷ [])).ending ≡ RanOff
unfolding lowest_off all_hold new_value values_from run dot
runs_off_lem = refl

pub incident_unsafe : Safe incident_program → ⊥
incident_unsafe safe =
    let s = safe (pos 5 ∷ []) incident_starts (0 ∷ []) (omega arith, tt) in
    cc (s.never-off, runs_off_lem)

pub incident-never-safe : (lemmas gl pl : List ℕ) (n e : ℕ) → (judge incident lemmas gl pl).answer ≡ Ok (IsSafe n e) → ⊥
incident-never-safe lemmas gl pl n e h = incident_unsafe (rw incident-read at (judge-safe incident lemmas gl pl h))
