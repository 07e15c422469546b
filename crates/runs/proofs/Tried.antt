-- Trying an action on arrays is the step of the definitions.
use mathlib.Core.Path.{◌≡◌, refl, ap, ◌∙◌}
use mathlib.Core.Bool.{Bool, true, false, cond}
use mathlib.Core.List.{List, map}
use Prim.Native.Nat.{ℕ, ◌-◌, ◌≤◌}
use native.Mathlib.Omega.{arith}
use lib.Dec.{ltb}
use lib.IntN.{ℤ, pos}
use lib.ListN.{length, take, replicate}
use lib.Seq.{sets, take_at}
use Rattle.std.specs.Prelude.{Ok}
use Rattle.rows.specs.declared.Row.{Row}
use Rattle.rows.specs.declared.Range.{Range}
use Rattle.rows.specs.Rows.{row_value, zero_range}
use Rattle.grammar.specs.Programs.{Action, Program}
use Rattle.grammar.specs.WellFormed.{ActionOk}
use Rattle.reader.specs.Results.{zero_row, zero_rows}
use Rattle.actions.specs.NewRows.{keep_rows, assigned}
use Rattle.programs.specs.Images.{zero_ranges}
use Rattle.runs.specs.Runs.{Outcome, lowest_off, new_value, new_state, enabled, action_of, step}
use Rattle.runs.specs.Calls.{outcome, stay}
use Rattle.runs.specs.declared.Stepped.TheVariants.{Moved, NotEnabled, RunsOff}
use Rattle.runs.specs.Values.{padded, begun_on, tried}
use Rattle.runs.specs.Guards.{first_failing}
use Rattle.runs.proofs.Guards.{failing_padded, none-fails}
use Rattle.runs.proofs.Sizes.{front_stored}
use Rattle.runs.proofs.NewValues.{values_length, new-values}

-- what the tests decide
decided : (guards : List Row) (s t : List ℤ) (v : ℕ) (on off : Bool) → cond on (cond off (stay (Ok (RunsOff v)) s) (record { answer = Ok Moved; state = t })) (stay (Ok (NotEnabled (first_failing guards s))) s)
    ≡ outcome guards (cond on (cond off (Outcome.RunsOff v) (Outcome.Moved t)) Outcome.NotEnabled) s
decided guards s t v true true = refl
decided guards s t v true false = refl
decided guards s t v false off = refl

module _ (p : Program) (k : ℕ) (s : List ℤ) (l : length s ≡ length p.ranges) (few : length p.ranges ≤ 8) (ok : ActionOk (length p.ranges) (action_of p k)) where
  abbrev gs : List Range
  gs = p.ranges

  abbrev a : Action
  a = action_of p k

  abbrev t : List ℤ
  t = new_state a s

  pub new-state : take (length s) (map (λ r. row_value r (padded s)) (assigned keep_rows a.sets)) ≡ t
  new-state =
      ap (take (length s)) (new-values (length gs) a.sets ok.rising s l few)
      ∙ take_at t (replicate (8 - length t) (pos 0)) (length s) (values_length (new_value a.sets s) 0 (length s))

  same-ranges : take (length s) (sets zero_ranges 0 gs) ≡ gs
  same-ranges = rw l (front_stored 8 zero_range gs few)

  pub same-guards : first_failing (take (length a.guards) (sets zero_rows 0 a.guards)) (padded s) ≡ first_failing a.guards s
  same-guards =
      ap (λ (rs : List Row). first_failing rs (padded s)) (front_stored 14 zero_row a.guards (omega (arith, ok.guards.few))) ∙ failing_padded a.guards s (8 - length s)

  pub tried-is : tried (begun_on p k s) s ≡ outcome a.guards (step p k s) s
  tried-is =
      let same : ltb (lowest_off gs t) (length s) ≡ ltb (lowest_off gs t) (length gs) = ap (ltb (lowest_off gs t)) l in
      rw (same-guards, none-fails a.guards s, same-ranges, new-state, same) (decided a.guards s t (lowest_off gs t) (enabled a s) (ltb (lowest_off gs t) (length gs)))
