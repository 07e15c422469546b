-- What the readers of words and rows give, by what the grammar says. Only contracts of functions within the project cite these.
--
-- outcome   — what the code gives for what was read: a value and where reading goes on, or why it stops
-- next_of   — where reading goes on, or why it stops
-- placed    — a value and where reading goes on
-- zero_row  — the row that is always 0
-- row_read  — a row and where reading goes on
-- zero_rows — fourteen rows that are always 0
-- rows_from — rows put behind those that are stored
-- rows_read — rows from place 0 on
use Rattle.std.specs.Prelude.{List, ℕ, pos, replicate, Result, Ok, Err}
use Rattle.std.proofs.lemmas.List.Edits.{sets}
use Rattle.words.specs.declared.Refusal.{Refusal}
use Rattle.rows.specs.declared.Row.{Row}
use Rattle.grammar.specs.Reading.{Read, got, refused}

module _ {A B : Type 0} where
  abbrev pub outcome : (A → ℕ → B) → Read A → Result B Refusal
  outcome f (got a ws i) = Ok (f a i)
  outcome f (refused r) = Err r

module _ {A : Type 0} where
  abbrev pub next_of : Read A → Result ℕ Refusal
  next_of m = outcome (λ a i. i) m

  abbrev pub placed : Read A → Result (A × ℕ) Refusal
  placed m = outcome (λ a i. (a, i)) m

abbrev pub zero_row : Row
zero_row = record { coef = replicate 8 (pos 0); constant = pos 0 }

abbrev pub row_read : Read Row → Result (Row × ℕ) Refusal
row_read m = placed m

abbrev pub zero_rows : List Row
zero_rows = replicate 14 zero_row

-- the rows stored from place k on
abbrev pub rows_from : List Row → ℕ → Read (List Row) → Result (List Row × ℕ) Refusal
rows_from rs k m = outcome (λ xs i. (sets rs k xs, i)) m

abbrev pub rows_read : Read (List Row) → Result (List Row × ℕ) Refusal
rows_read m = rows_from zero_rows 0 m
