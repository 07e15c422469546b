-- What Step answers, and what it leaves in the lent state, for any program list, action number and state list.
--
-- Stepping  — the answer and the state at exit
-- stay      — an answer that leaves the state
-- outcome   — what trying an action of these guards does
-- ready     — the program, or the refusal that is due before an action is tried: 2 to 4, 8, 9, 10 in that order
-- answered  — what a step function answers on a program that was read, or the refusal
-- step_call — Step
use Rattle.std.specs.Prelude.{Result, Ok, Err, cond, not, List, ℕ, eqb, ltb, leb, ℤ, length}
use Rattle.words.specs.declared.Refusal.{Refusal}
use Rattle.words.specs.declared.Refusal.TheVariants.{Absent, Length, State}
use Rattle.rows.specs.declared.Row.{Row}
use Rattle.grammar.specs.Reading.{Read, got, refused}
use Rattle.grammar.specs.Programs.{Program}
use Rattle.programs.specs.Calls.{read}
use Rattle.runs.specs.declared.Stepped.{Stepped}
use Rattle.runs.specs.declared.Stepped.TheVariants.{Moved, NotEnabled, RunsOff}
use Rattle.runs.specs.Runs.{Outcome, lowest_off, action_of, step}
use Rattle.runs.specs.Guards.{first_failing}

pub record Stepping : Type 0 where
  pub answer : Result Stepped Refusal
  pub state : List ℤ

abbrev pub stay : Result Stepped Refusal → List ℤ → Stepping
stay a s = record { answer = a; state = s }

-- Only moved writes. Not enabled carries the first guard row that fails, and its value.
abbrev pub outcome : List Row → Outcome → List ℤ → Stepping
outcome guards (Outcome.Moved t) s = record { answer = Ok Moved; state = t }
outcome guards Outcome.NotEnabled s = stay (Ok (NotEnabled (first_failing guards s))) s
outcome guards (Outcome.RunsOff v) s = stay (Ok (RunsOff v)) s

-- The program, or what is refused before action k is tried on a state; in this order: no such action; a state of another length; a value off its range.
abbrev pub ready : Read Program → ℕ → List ℤ → Read Program
ready (refused r) k s = refused r
ready (got p ws i) k s =
    cond (leb (length p.actions) k) (refused (Absent k))
    (cond (not (eqb (length s) (length p.ranges))) (refused (Length (length s)))
    (cond (ltb (lowest_off p.ranges s) (length p.ranges)) (refused (State (lowest_off p.ranges s)))
    (got p ws i)))

-- the outcome of a step function at the state, or the refusal
abbrev pub answered : (Program → ℕ → List ℤ → Outcome) → Read Program → ℕ → List ℤ → Stepping
answered f (refused r) k s = stay (Err r) s
answered f (got p ws i) k s = outcome (action_of p k).guards (f p k s) s

abbrev pub step_call : List ℕ → ℕ → List ℤ → Stepping
step_call ws k s = answered step (ready (read ws) k s) k s
