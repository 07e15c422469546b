-- The words of a program. Reading them gives the program back, and an accepted list is the words of what was read (proofs/ProgramLaws).
--
-- concat                                                                                                       — the words of each, one after the other
-- encode_range, encode_coef, encode_coefs, encode_row, encode_rows, encode_set, encode_action, encode_literals — the words of each part
-- encode                                                                                                       — the words of a program
use Rattle.std.specs.Prelude.{List, [], ◌∷◌, ◌++◌, cond, ℕ, suc, ◌+◌, ◌*◌, ◌^◌, eqb, ℤ, length}
use Rattle.words.specs.Words.{word, unsigned, VAR, ROW, TERM, INIT, PRED, ACTION, SET, SETS, END}
use Rattle.words.specs.declared.Literals.{Literals}
use Rattle.rows.specs.declared.Row.{Row}
use Rattle.rows.specs.declared.Range.{Range}
use Rattle.grammar.specs.Programs.{Assignment, Action, Program}

module _ {A : Type 0} where
  unfoldable pub concat : (A → List ℕ) → List A → List ℕ
  concat f [] = []
  concat f (x ∷ xs) = f x ++ concat f xs

abbrev pub encode_range : Range → List ℕ
encode_range r = word VAR (unsigned 14 r.low * 2 ^ 14 + unsigned 14 r.high) ∷ []

-- a coefficient of zero has no TERM
abbrev pub encode_coef : ℕ → ℤ → List ℕ
encode_coef v c = cond (eqb (unsigned 16 c) 0) [] (word TERM (v * 2 ^ 24 + unsigned 16 c) ∷ [])

unfoldable pub encode_coefs : ℕ → List ℤ → List ℕ
encode_coefs v [] = []
encode_coefs v (c ∷ cs) = encode_coef v c ++ encode_coefs (suc v) cs

abbrev pub encode_row : Row → List ℕ
encode_row r = word ROW (unsigned 28 r.constant) ∷ encode_coefs 0 r.coef

abbrev pub encode_rows : ℕ → List Row → List ℕ
encode_rows kind rs = word kind (length rs) ∷ concat encode_row rs

abbrev pub encode_set : Assignment → List ℕ
encode_set a = word SET a.variable ∷ encode_row a.row

abbrev pub encode_action : Action → List ℕ
encode_action a = word ACTION (length a.guards * 16 + length a.sets) ∷ concat encode_row a.guards ++ concat encode_set a.sets

abbrev pub encode_literals : Literals → List ℕ
encode_literals l = word SETS l.0 ∷ []

unfoldable pub encode : Program → List ℕ
encode p =
    concat encode_range p.ranges ++ encode_rows INIT p.start ++ encode_rows PRED p.predicates
    ++ concat encode_action p.actions ++ concat encode_literals p.forbidden ++ (word END 0 ∷ [])
