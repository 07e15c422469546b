-- Request 5: how near it was. The first of an action's guard rows that fails, and its value at the state.
--
-- later         — the same row, counted from one row earlier
-- first_failing — the first of some rows that fails, counted from 0, and its value; where all hold, the number of rows and 0
-- Near          — what this says where one fails: the rows before it hold, and its exact value is below 0
-- Guarded       — what the answer of a step says of the guards: the first that fails, or that the action was enabled
use Rattle.std.specs.Prelude.{◌≡◌, Result, Ok, Err, true, cond, List, [], ◌∷◌, ◌++◌, ℕ, suc, ℤ, pos, ◌<ℤ◌, length}
use Rattle.words.specs.declared.Refusal.{Refusal}
use Rattle.rows.specs.declared.Row.{Row}
use Rattle.rows.specs.Rows.{row_value, holds}
use Rattle.grammar.specs.Reading.{Read, got, refused}
use Rattle.grammar.specs.Programs.{Program}
use Rattle.runs.specs.declared.Failing.{Failing}
use Rattle.runs.specs.declared.Stepped.{Stepped}
use Rattle.runs.specs.declared.Stepped.TheVariants.{Moved, NotEnabled, RunsOff}
use Rattle.runs.specs.Runs.{all_hold, enabled, action_of}

abbrev pub later : Failing → Failing
later f = record { row = suc f.row; value = f.value }

-- A row fails where its value is below 0. Where every row holds the value is 0: the yes of the row test.
unfoldable pub first_failing : List Row → List ℤ → Failing
first_failing [] s = record { row = 0; value = pos 0 }
first_failing (r ∷ rs) s = cond (holds r s) (later (first_failing rs s)) (record { row = 0; value = row_value r s })

-- The rows are some that hold, then the one that fails, whose number is how many stand before it, then the others; its value is the row's exact one at the
-- state, and below 0.
pub record Near (rows : List Row) (s : List ℤ) (f : Failing) : Type 0 where
  pub before : List Row
  pub fails : Row
  pub after : List Row
  pub rows_are : rows ≡ before ++ (fails ∷ after)
  pub number : f.row ≡ length before
  pub before-hold : all_hold before s ≡ true
  pub value-is : f.value ≡ row_value fails s
  pub below : f.value <ℤ pos 0

-- Of action k of a program, tried on a state: not enabled names the first guard row that fails; moved and runs off say that the action is enabled. Where
-- something is refused, the answer is that refusal.
abbrev pub Guarded : Read Program → ℕ → List ℤ → Result Stepped Refusal → Type 0
Guarded (refused r) k s a = a ≡ Err r
Guarded (got p ws i) k s (Ok (NotEnabled f)) = Near (action_of p k).guards s f
Guarded (got p ws i) k s (Ok Moved) = enabled (action_of p k) s ≡ true
Guarded (got p ws i) k s (Ok (RunsOff v)) = enabled (action_of p k) s ≡ true
Guarded (got p ws i) k s (Err r) = ⊥
