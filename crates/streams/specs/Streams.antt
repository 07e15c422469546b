-- Reading or writing a whole stream by calls that each move a part of it, and when it is given up.
--
-- most_tries                — how many calls in all may be told to come again
-- passing                   — the errors that are worth another try: EINTR (4) and EAGAIN (11)
-- answer_of                 — the answer of a call that gave this number, with this error beside it
-- at_nothing                — no byte moved, and there is room for more: to a read the end of the input, to a write trouble
-- after_moved, after_failed — where a stream stands after a call that moved so many bytes; after one that failed
-- next                      — where it stands after one answer more; behind the end no call is made
-- streamed                  — where it stands after a list of answers
-- sum_of, passed            — how many bytes the answers moved; how many of them were passing errors
-- Sound                     — no answer was an error, but for passing ones
-- Closes                    — the last answer moved no byte
-- EndsWell                  — the room is full, or, of a read, the last answer moved no byte
-- WholeOf                   — what the answers were, if a stream of so many bytes is whole
use Rattle.std.specs.Prelude.{◌≡◌, Bool, false, ◌||◌, cond, List, [], ◌∷◌, ◌++◌, ◌⊎◌, ℕ, suc, ◌+◌, ◌≤◌, T, eqb, ltb}
use Rattle.std.specs.Prelude.{ℤ, pos, negsuc, Result, Ok, Err}
use Rattle.streams.specs.declared.Way.{Way}
use Rattle.streams.specs.declared.Way.TheVariants.{Read, Write}
use Rattle.streams.specs.declared.Progress.{Progress}
use Rattle.streams.specs.declared.Progress.TheVariants.{Going, Whole, Broken}

abbrev pub most_tries : ℕ
most_tries = 500

abbrev pub passing : ℤ → Bool
passing (pos e) = eqb e 4 || eqb e 11
passing (negsuc e) = false

abbrev pub answer_of : ℤ → ℤ → Result ℕ ℤ
answer_of (pos n) error = Ok n
answer_of (negsuc n) error = Err error

-- ---- one answer
abbrev pub at_nothing : Way → ℕ → Progress
at_nothing Read done = Whole done
at_nothing Write done = Broken

unfoldable pub after_moved : Way → ℕ → ℕ → ℕ → ℕ → Progress
after_moved way room done tries n =
    cond (ltb room (done + n)) Broken
    (cond (eqb (done + n) room) (Whole room)
    (cond (eqb n 0) (at_nothing way done) (Going (done + n) tries)))

unfoldable pub after_failed : ℕ → ℕ → ℤ → Progress
after_failed done tries error = cond (passing error) (cond (ltb tries most_tries) (Going done (suc tries)) Broken) Broken

unfoldable pub next : Way → ℕ → Progress → Result ℕ ℤ → Progress
next way room (Going done tries) (Ok n) = after_moved way room done tries n
next way room (Going done tries) (Err error) = after_failed done tries error
next way room (Whole n) answer = Broken
next way room Broken answer = Broken

-- ---- all answers
unfoldable pub streamed : Way → ℕ → Progress → List (Result ℕ ℤ) → Progress
streamed way room progress [] = progress
streamed way room progress (answer ∷ answers) = streamed way room (next way room progress answer) answers

unfoldable pub sum_of : List (Result ℕ ℤ) → ℕ
sum_of [] = 0
sum_of (Ok n ∷ answers) = n + sum_of answers
sum_of (Err error ∷ answers) = sum_of answers

unfoldable pub passed : List (Result ℕ ℤ) → ℕ
passed [] = 0
passed (Ok n ∷ answers) = passed answers
passed (Err error ∷ answers) = cond (passing error) (suc (passed answers)) (passed answers)

unfoldable pub Sound : List (Result ℕ ℤ) → Type 0
Sound [] = Unit {0}
Sound (Ok n ∷ answers) = Sound answers
Sound (Err error ∷ answers) = T (passing error) × Sound answers

abbrev pub Closes : List (Result ℕ ℤ) → Type 0
Closes answers = (front : List (Result ℕ ℤ)) × (answers ≡ front ++ (Ok 0 ∷ []))

abbrev pub EndsWell : Way → ℕ → ℕ → List (Result ℕ ℤ) → Type 0
EndsWell Read room n answers = (n ≡ room) ⊎ Closes answers
EndsWell Write room n answers = n ≡ room

pub record WholeOf (way : Way) (room n : ℕ) (answers : List (Result ℕ ℤ)) : Type 0 where
  pub sound : Sound answers
  pub few : passed answers ≤ most_tries
  pub sum : n ≡ sum_of answers
  pub ends : EndsWell way room n answers
