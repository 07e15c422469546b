-- Well-formed programs: those that have words. Every accepted program is one (proofs/ProgramLaws).
--
-- Each                                        — every element of a list is good
-- Few                                         — at most n, each good
-- RangeOk, RowOk, SetOk, ActionOk, LiteralsOk — each part within the limits
-- Rising                                      — assignments to rising variables
-- WellFormed                                  — the whole
use Rattle.std.specs.Prelude.{◌≡◌, true, List, [], ◌∷◌, ℕ, suc, ◌-◌, ◌^◌, ◌≤◌, ◌<◌, pos, negsuc, ◌≤ℤ◌, length, drop, replicate}
use Rattle.std.specs.Int.Bits.{bit_and}
use Rattle.words.specs.Words.{bits}
use Rattle.words.specs.Limits.{most_variables, most_rows, most_predicates, most_actions, most_forbidden}
use Rattle.words.specs.Limits.{least_constant, most_constant, least_coefficient, most_coefficient}
use Rattle.words.specs.declared.Literals.{Literals}
use Rattle.rows.specs.declared.Row.{Row}
use Rattle.rows.specs.declared.Range.{Range}
use Rattle.rows.specs.Rows.{between}
use Rattle.grammar.specs.Programs.{Assignment, Action, Program}

module _ {A : Type 0} where
  abbrev pub Each : (A → Type 0) → List A → Type 0
  Each P [] = Unit {0}
  Each P (x ∷ xs) = P x × Each P xs

module _ {A : Type 0} where
  -- at most n of them, each good
  pub record Few (n : ℕ) (P : A → Type 0) (xs : List A) : Type 0 where
    pub few : length xs ≤ n
    pub each : Each P xs

pub record RangeOk (r : Range) : Type 0 where
  pub low : between (negsuc 8191) (pos 8191) r.low ≡ true
  pub high : between (negsuc 8191) (pos 8191) r.high ≡ true
  pub order : r.low ≤ℤ r.high

pub record RowOk (vars : ℕ) (r : Row) : Type 0 where
  pub eight : length r.coef ≡ most_variables
  pub small : Each (λ c. between least_coefficient most_coefficient c ≡ true) r.coef
  pub absent : drop vars r.coef ≡ replicate (most_variables - vars) (pos 0)
  pub constant : between least_constant most_constant r.constant ≡ true

-- an assignment to a variable from v on
pub record SetOk (vars v : ℕ) (s : Assignment) : Type 0 where
  pub from : v ≤ s.variable
  pub below : s.variable < vars
  pub row : RowOk vars s.row

-- assignments to variables that rise from v on
abbrev pub Rising : ℕ → ℕ → List Assignment → Type 0
Rising vars v [] = Unit {0}
Rising vars v (s ∷ ss) = SetOk vars v s × Rising vars (suc s.variable) ss

pub record ActionOk (vars : ℕ) (a : Action) : Type 0 where
  pub guards : Few most_rows (RowOk vars) a.guards
  pub few : length a.sets ≤ most_variables
  pub rising : Rising vars 0 a.sets

pub record LiteralsOk (preds : ℕ) (l : Literals) : Type 0 where
  pub payload : l.0 < 2 ^ 28
  pub false-known : bits 27 14 l.0 < 2 ^ preds
  pub true-known : bits 13 0 l.0 < 2 ^ preds
  pub apart : bit_and (bits 27 14 l.0) (bits 13 0 l.0) ≡ 0

pub record WellFormed (p : Program) : Type 0 where
  pub some : 1 ≤ length p.ranges
  pub ranges : Few most_variables RangeOk p.ranges
  pub start : Few most_rows (RowOk (length p.ranges)) p.start
  pub predicates : Few most_predicates (RowOk (length p.ranges)) p.predicates
  pub actions : Few most_actions (ActionOk (length p.ranges)) p.actions
  pub forbidden : Few most_forbidden (LiteralsOk (length p.predicates)) p.forbidden
