-- The grammar of a program, with the refusal that is due at each word: 2 before 3 before 4, and the first bad word decides.
--
-- range_of, range                                     — a variable's range, VAR
-- coefficient, coefficient_allowed, term, begins_term — TERM
-- coef, coefs                                         — a row's coefficients, by rising variable
-- constant_of, constant_allowed                       — ROW
-- row_of, row                                         — a row
-- rows                                                — INIT or PRED and its rows
-- assignment, sets                                    — SET and a row; an action's assignments
-- action                                              — an action
-- literals_allowed, combination                       — a forbidden combination, SETS
-- nothing, end                                        — END, and nothing after it
-- ranges                                              — 1 to 8 VAR
-- program                                             — the whole
use Rattle.std.specs.Prelude.{Bool, true, false, ◌&&◌, not, List, [], ◌∷◌, ◌++◌, ℕ, zero, suc, ◌-◌, ◌^◌, eqb, ltb, leb, ℤ, pos, length, replicate}
use Rattle.std.specs.Int.Bits.{bit_and}
use Rattle.std.specs.Int.Signed.{le_z}
use Rattle.words.specs.Words.{bits, payload, kind_of, signed, literals_of, VAR, ROW, TERM, INIT, PRED, ACTION, SET, SETS, END}
use Rattle.words.specs.Limits.{most_variables, most_rows, most_predicates, most_actions, most_forbidden}
use Rattle.words.specs.Limits.{least_constant, most_constant, least_coefficient, most_coefficient}
use Rattle.words.specs.declared.Refusal.TheVariants.{Word}
use Rattle.words.specs.declared.Literals.{Literals}
use Rattle.rows.specs.declared.Row.{Row}
use Rattle.rows.specs.declared.Range.{Range}
use Rattle.rows.specs.Rows.{between}
use Rattle.grammar.specs.Reading.{Reader, got, refused, pure, ◌>>=◌, one, always, begins, optional, times, many}
use Rattle.grammar.specs.Programs.{Assignment, Action, Program}

-- VAR: low end bits 27..14, high end 13..0
abbrev pub range_of : ℕ → Range
range_of w = record { low = signed 14 (bits 27 14 w); high = signed 14 (bits 13 0 w) }

abbrev pub range : Bool → Reader Range
range room = do
  w ← one VAR always (λ w. room) (λ w. le_z (range_of w).low (range_of w).high)
  pure (range_of w)

-- TERM: variable 27..24, coefficient 15..0, from -1,000 to 1,000 and not 0
abbrev pub coefficient : ℕ → ℤ
coefficient w = signed 16 (bits 15 0 w)

abbrev pub coefficient_allowed : ℕ → Bool
coefficient_allowed w = not (eqb (bits 15 0 w) 0) && between least_coefficient most_coefficient (coefficient w)

abbrev pub term : (ℕ → Bool) → Reader ℕ
term allowed = one TERM (λ w. eqb (bits 23 16 w) 0) always allowed

abbrev pub begins_term : ℕ → List ℕ → Bool
begins_term v [] = false
begins_term v (w ∷ ws) = eqb (kind_of w) TERM && eqb (bits 27 24 w) v

-- the coefficient of variable v, zero where its TERM is absent
abbrev pub coef : ℕ → Reader ℤ
coef v = optional (begins_term v) (term coefficient_allowed >>= λ w. pure (coefficient w)) (pos 0)

-- the coefficients of n variables from v on. A TERM after them does not rise, or its variable is unknown
unfoldable pub coefs : ℕ → ℕ → Reader (List ℤ)
coefs zero v = optional (begins TERM) (term (λ w. false) >>= λ w. pure []) []
coefs (suc n) v = do
  c ← coef v
  cs ← coefs n (suc v)
  pure (c ∷ cs)

-- ROW: constant, from -1,000,000 to 1,000,000
abbrev pub constant_of : ℕ → ℤ
constant_of w = signed 28 (payload w)

abbrev pub constant_allowed : ℕ → Bool
constant_allowed w = between least_constant most_constant (constant_of w)

abbrev pub row_of : ℕ → ℤ → List ℤ → Row
row_of vars constant cs = record { coef = cs ++ replicate (most_variables - vars) (pos 0); constant = constant }

unfoldable pub row : ℕ → Reader Row
row vars = do
  w ← one ROW always always constant_allowed
  cs ← coefs vars 0
  pure (row_of vars (constant_of w) cs)

-- INIT or PRED, and as many rows as it says
unfoldable pub rows : ℕ → ℕ → ℕ → Reader (List Row)
rows kind most vars = do
  w ← one kind always (λ w. leb (payload w) most) always
  times (payload w) (row vars)

-- SET and a row: an assignment to a variable from v on
unfoldable pub assignment : ℕ → ℕ → Reader Assignment
assignment vars v = do
  w ← one SET always always (λ w. leb v (payload w) && ltb (payload w) vars)
  r ← row vars
  pure (record { variable = payload w; row = r })

-- n assignments, variables strictly rising
unfoldable pub sets : ℕ → ℕ → ℕ → Reader (List Assignment)
sets vars zero v = pure []
sets vars (suc n) v = do
  s ← assignment vars v
  ss ← sets vars n (suc s.variable)
  pure (s ∷ ss)

-- ACTION: guard rows 7..4, assignments 3..0, each 0 to 8
unfoldable pub action : ℕ → Bool → Reader Action
action vars room = do
  w ← one ACTION (λ w. eqb (bits 27 8 w) 0) (λ w. room && leb (bits 7 4 w) most_rows && leb (bits 3 0 w) most_variables) always
  gs ← times (bits 7 4 w) (row vars)
  ss ← sets vars (bits 3 0 w) 0
  pure (record { guards = gs; sets = ss })

-- SETS: known-false predicates 27..14, known-true 13..0; each in the program, and none in both
abbrev pub literals_allowed : ℕ → ℕ → Bool
literals_allowed preds w = ltb (bits 27 14 w) (2 ^ preds) && ltb (bits 13 0 w) (2 ^ preds) && eqb (bit_and (bits 27 14 w) (bits 13 0 w)) 0

abbrev pub combination : ℕ → Bool → Reader Literals
combination preds room = do
  w ← one SETS always (λ w. room) (literals_allowed preds)
  pure (literals_of w)

-- END, and nothing after it
abbrev pub nothing : Reader ℕ
nothing [] i = got 0 [] i
nothing (w ∷ ws) i = refused (Word i)

unfoldable pub end : Reader ℕ
end = do
  w ← one END (λ w. eqb (payload w) 0) always always
  nothing

-- 1 to 8 VAR
unfoldable pub ranges : Reader (List Range)
ranges = do
  r ← range true
  rs ← many VAR range (most_variables - 1)
  pure (r ∷ rs)

unfoldable pub program : Reader Program
program = do
  gs ← ranges
  start ← rows INIT most_rows (length gs)
  preds ← rows PRED most_predicates (length gs)
  actions ← many ACTION (action (length gs)) most_actions
  forbidden ← many SETS (combination (length preds)) most_forbidden
  e ← end
  pure (record { ranges = gs; start = start; predicates = preds; actions = actions; forbidden = forbidden })
