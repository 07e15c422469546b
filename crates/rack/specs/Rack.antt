-- Request 4: the rack's step and its runs. It holds each variable in sixteen bits; nothing here asks what the exact step does.
--
-- rack_value — what the rack stores in a variable
-- rack_state — the state that it stores
-- rack_step  — what trying an action does: moved, or not enabled
-- rack_run   — the rack's run over any list of actions, going on with what was stored
-- rack_call  — the call: what it answers, and what it leaves in the lent state; it refuses as Step does
use Rattle.std.specs.Prelude.{cond, List, [], ◌∷◌, map, ℕ, eqb, ℤ, pos, length, get_or}
use Rattle.grammar.specs.Programs.{Assignment, Action, Program}
use Rattle.programs.specs.Calls.{read}
use Rattle.runs.specs.Runs.{Outcome, Moved, NotEnabled, Finished, Run, enabled, action_of, values_from, onward}
use Rattle.runs.specs.Calls.{Stepping, ready, answered}
use Rattle.sixteen.specs.Sixteen.{cut, wrapped_value}

-- Assignments use the old values, as they are held, and happen at once; other variables keep theirs. What is stored in variable v:
unfoldable pub rack_value : List Assignment → List ℤ → ℕ → ℤ
rack_value [] old v = get_or old v (pos 0)
rack_value (x ∷ xs) old v = cond (eqb x.variable v) (wrapped_value x.row (map cut old)) (rack_value xs old v)

abbrev pub rack_state : Action → List ℤ → List ℤ
rack_state a s = values_from (rack_value a.sets s) 0 (length s)

-- Guards are worked out exactly. An action that is enabled moves, whatever is stored.
abbrev pub rack_step : Program → ℕ → List ℤ → Outcome
rack_step p k s = cond (enabled (action_of p k) s) (Moved (rack_state (action_of p k) s)) NotEnabled

unfoldable pub rack_run : Program → List ℕ → List ℤ → Run
rack_run p [] s = record { states = s ∷ []; moves = 0; ending = Finished }
rack_run p (k ∷ ks) s = onward s (rack_step p k s) (rack_run p ks)

-- Refusals as of Step, 2 to 4, 8, 9 and 10 in that order; each leaves the state.
abbrev pub rack_call : List ℕ → ℕ → List ℤ → Stepping
rack_call ws k s = answered rack_step (ready (read ws) k s) k s
