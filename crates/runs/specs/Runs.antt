-- States and runs, over whole numbers without bound. Nothing here knows of lemmas, graphs or machine words.
--
-- all_hold                             — all of some rows hold at a state
-- on_range, lowest_off                 — a value is on its range; the lowest variable whose value is not
-- Inside, Start                        — a state in all ranges; a start state
-- enabled                              — an action may be taken
-- new_value                            — the value that assignments give a variable, from the old ones
-- values_from, new_state               — the values of some variables; the state after an action
-- Outcome, landed, action_of, step     — what trying an action does
-- predicate, literal_row, literal_rows — a predicate's row; a literal's; those of a set's literals
-- meets, some_met, forbidden           — a state meets all literals of a set; of some combination
-- Ending, Run, onward, run             — the states of a run over any list of actions, its moves, and how it ended
-- SafeRun, Safe                        — the safety statement: of one run; of all runs
use Rattle.std.specs.Prelude.{◌≡◌, Bool, true, false, cond, ◌&&◌, ◌||◌, List, [], ◌∷◌, map, ℕ, zero, suc, ◌<◌, eqb, ltb, ℤ, pos, length, get_or, replicate}
use Rattle.words.specs.declared.Literals.{Literals}
use Rattle.words.specs.LiteralSets.{Literal, B, NotB, literals_in}
use Rattle.rows.specs.declared.Row.{Row}
use Rattle.rows.specs.declared.Range.{Range}
use Rattle.rows.specs.Rows.{between, row_value, holds, negated}
use Rattle.grammar.specs.Programs.{Assignment, Action, Program}
use Rattle.grammar.specs.WellFormed.{Each}

unfoldable pub all_hold : List Row → List ℤ → Bool
all_hold [] s = true
all_hold (r ∷ rs) s = holds r s && all_hold rs s

abbrev pub on_range : Range → ℤ → Bool
on_range g x = between g.low g.high x

-- The lowest variable whose value is off its range; the number of variables if there is none.
unfoldable pub lowest_off : List Range → List ℤ → ℕ
lowest_off [] s = 0
lowest_off (g ∷ gs) [] = 0
lowest_off (g ∷ gs) (x ∷ s) = cond (on_range g x) (suc (lowest_off gs s)) 0

-- A start state lies in all ranges and meets every start row.
pub record Inside (p : Program) (s : List ℤ) : Type 0 where
  pub long : length s ≡ length p.ranges
  pub none-off : lowest_off p.ranges s ≡ length p.ranges

pub record Start (p : Program) (s : List ℤ) : Type 0 where
  pub inside : Inside p s
  pub meets : all_hold p.start s ≡ true

-- An action is enabled when all its guard rows hold; with no guard it always is.
abbrev pub enabled : Action → List ℤ → Bool
enabled a s = all_hold a.guards s

-- Its assignments use the old values and happen at once; other variables keep theirs. The new value of variable v:
unfoldable pub new_value : List Assignment → List ℤ → ℕ → ℤ
new_value [] old v = get_or old v (pos 0)
new_value (x ∷ xs) old v = cond (eqb x.variable v) (row_value x.row old) (new_value xs old v)

-- the values of n variables from v on
unfoldable pub values_from : (ℕ → ℤ) → ℕ → ℕ → List ℤ
values_from f v zero = []
values_from f v (suc n) = f v ∷ values_from f (suc v) n

abbrev pub new_state : Action → List ℤ → List ℤ
new_state a s = values_from (new_value a.sets s) 0 (length s)

-- If an exact new value is off its range the action runs off, with the lowest such variable. One that isn't enabled leaves the state.
pub data Outcome : Type 0 where
  Moved : List ℤ → Outcome
  NotEnabled : Outcome
  RunsOff : ℕ → Outcome

abbrev pub landed : List Range → List ℤ → Outcome
landed gs t = cond (ltb (lowest_off gs t) (length gs)) (RunsOff (lowest_off gs t)) (Moved t)

abbrev pub action_of : Program → ℕ → Action
action_of p k = get_or p.actions k (record { guards = []; sets = [] })

abbrev pub step : Program → ℕ → List ℤ → Outcome
step p k s = cond (enabled (action_of p k) s) (landed p.ranges (new_state (action_of p k) s)) NotEnabled

abbrev pub predicate : Program → ℕ → Row
predicate p j = get_or p.predicates j (record { coef = replicate 8 (pos 0); constant = pos 0 })

-- A literal is a predicate or its negation: its row, and the rows of a set's literals by rising predicate.
abbrev pub literal_row : Program → Literal → Row
literal_row p (B j) = predicate p j
literal_row p (NotB j) = negated (predicate p j)

abbrev pub literal_rows : Program → Literals → List Row
literal_rows p l = map (literal_row p) (literals_in (length p.predicates) l.0)

-- A state is forbidden when it meets all literals of some forbidden combination.
abbrev pub meets : Program → Literals → List ℤ → Bool
meets p l s = all_hold (literal_rows p l) s

unfoldable pub some_met : Program → List Literals → List ℤ → Bool
some_met p [] s = false
some_met p (l ∷ ls) s = meets p l s || some_met p ls s

abbrev pub forbidden : Program → List ℤ → Bool
forbidden p s = some_met p p.forbidden s

-- Any list of actions is tried, each on the state that the last one left. The run's states are the first and each one left.
pub data Ending : Type 0 where
  Finished : Ending
  RanOff : Ending

pub record Run : Type 0 where
  pub states : List (List ℤ)
  pub moves : ℕ
  pub ending : Ending

abbrev pub onward : List ℤ → Outcome → (List ℤ → Run) → Run
onward s (Moved t) go = record { states = s ∷ (go t).states; moves = suc (go t).moves; ending = (go t).ending }
onward s NotEnabled go = record { states = s ∷ (go s).states; moves = (go s).moves; ending = (go s).ending }
onward s (RunsOff v) go = record { states = s ∷ []; moves = 0; ending = RanOff }

unfoldable pub run : Program → List ℕ → List ℤ → Run
run p [] s = record { states = s ∷ []; moves = 0; ending = Finished }
run p (k ∷ ks) s = onward s (step p k s) (run p ks)

-- No state of the run is forbidden, and no action that is enabled when tried gives a variable a value off its range.
pub record SafeRun (p : Program) (r : Run) : Type 0 where
  pub never-forbidden : Each (λ s. forbidden p s ≡ false) r.states
  pub never-off : r.ending ≡ Finished

-- Demand 3: every run from a start state, over any list of the program's actions, is safe.
abbrev pub Safe : Program → Type 0
Safe p = (s : List ℤ) → Start p s → (ks : List ℕ) → Each (λ k. k < length p.actions) ks → SafeRun p (run p ks s)
