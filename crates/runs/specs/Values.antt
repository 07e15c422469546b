-- A state as eight values, and the rows of a set's literals as the code adds them. Only contracts of functions within the project cite these.
--
-- padded           — a state of at most eight variables, with zeros behind
-- SmallRows        — every row's numbers are small enough to compute with
-- where_off        — the lowest of n variables that is off its range, where one is
-- where_failing    — the first of some rows that fails, where one does
-- begun_on, begun  — what trying an action begins with, on arrays, or the refusal
-- Good             — its numbers are small enough to compute with
-- lacking          — the first of its guard rows that fails
-- Fits             — a record of 32-bit numbers has room for it
-- tried            — what trying it does
-- row_if           — a row, where a test holds
-- premise_rows     — the rows of a set's literals, of some predicates from number i on
use Rattle.std.specs.Prelude.{Option, Some, None, Result, Ok, Err}
use Rattle.std.specs.Prelude.{Bool, cond, List, [], ◌∷◌, ◌++◌, map, ℕ, suc, ◌+◌, ◌-◌, ◌≤◌, ◌<◌, ltb, ℤ, pos, length, get_or, take, replicate}
use Rattle.std.specs.Int.Signed.{le_z}
use Rattle.std.proofs.lemmas.List.Edits.{sets}
use Rattle.std.specs.Int.{w32}
use Rattle.std.proofs.Common.{SFits}
use Rattle.words.specs.LiteralSets.{has}
use Rattle.words.specs.declared.Refusal.{Refusal}
use Rattle.rows.specs.declared.Row.{Row}
use Rattle.rows.specs.Rows.{row_value, negated}
use Rattle.rows.specs.Bounds.{AllWithin, max_state, Small, SmallRanges}
use Rattle.grammar.specs.Reading.{Read, got, refused}
use Rattle.grammar.specs.Programs.{Program}
use Rattle.reader.specs.Results.{zero_rows}
use Rattle.actions.specs.NewRows.{keep_rows, assigned}
use Rattle.programs.specs.Images.{zero_ranges}
use Rattle.runs.specs.declared.Begun.{Begun}
use Rattle.runs.specs.declared.Failing.{Failing}
use Rattle.runs.specs.declared.Stepped.TheVariants.{Moved, NotEnabled, RunsOff}
use Rattle.runs.specs.Runs.{lowest_off, action_of}
use Rattle.runs.specs.Guards.{first_failing}
use Rattle.runs.specs.Calls.{Stepping, stay}

abbrev pub padded : List ℤ → List ℤ
padded s = s ++ replicate (8 - length s) (pos 0)

abbrev pub SmallRows : List Row → Type 0
SmallRows rs = (k : ℕ) → Small (get_or rs k (record { coef = []; constant = pos 0 }))

-- one of n variables, where it is one
abbrev pub where_off : ℕ → ℕ → Option ℕ
where_off n v = cond (ltb v n) (Some v) None

-- `outcome` names a row without asking whether one fails, so `first_failing` itself is no Option
abbrev pub where_failing : Failing → Option Failing
where_failing f = cond (le_z (pos 0) f.value) None (Some f)

-- action k of a program and a state, on arrays
abbrev pub begun_on : Program → ℕ → List ℤ → Begun
begun_on p k s =
    record {
      ranges = sets zero_ranges 0 p.ranges;
      old = padded s;
      guards = length (action_of p k).guards;
      guard = sets zero_rows 0 (action_of p k).guards;
      rows = assigned keep_rows (action_of p k).sets;
    }

-- what trying action k of a program on a state begins with
abbrev pub begun : Read Program → ℕ → List ℤ → Result Begun Refusal
begun (refused r) k s = Err r
begun (got p us i) k s = Ok (begun_on p k s)

-- its numbers are small enough to compute with
pub record Good (b : Begun) : Type 0 where
  pub guards-few : b.guards ≤ 14
  pub guards : SmallRows b.guard
  pub rows : SmallRows b.rows
  pub old : AllWithin max_state b.old
  pub ranges : SmallRanges b.ranges

-- the first of its guard rows that fails
abbrev pub lacking : Begun → Failing
lacking b = first_failing (take b.guards b.guard) b.old

-- one of eight rows, and a value of 32 bits
abbrev pub Fits : Failing → Type 0
Fits f = (f.row < 8) × SFits w32 f.value

-- what trying it does: the same as `step`, on arrays
abbrev pub tried : Begun → List ℤ → Stepping
tried b s =
    let t = take (length s) (map (λ r. row_value r b.old) b.rows) in
    let v = lowest_off (take (length s) b.ranges) t in
    cond (le_z (pos 0) (lacking b).value)
    (cond (ltb v (length s)) (stay (Ok (RunsOff v)) s) (record { answer = Ok Moved; state = t })) (stay (Ok (NotEnabled (lacking b))) s)

abbrev pub row_if : Bool → Row → List Row
row_if b r = cond b (r ∷ []) []

unfoldable pub premise_rows : ℕ → List Row → ℕ → List Row
premise_rows i [] set = []
premise_rows i (r ∷ rs) set = row_if (has i set) r ++ (row_if (has (14 + i) set) (negated r) ++ premise_rows (suc i) rs set)
