-- What the readers of lemmas give, and what they work on. Only contracts of functions within the project cite these.
--
-- program_of, the_program            — the program that was read, that a list of words is; an empty one where it is none
-- Held                               — a list is a program, and this is its image
-- source_of, shape_of                — what a source offers; how many rows that are, and which variables it sets
-- slot_of, Slotted                   — the place of a source in a table of 18; the table has this of every source
-- goal_by, head_by, premises_by      — what a lemma's first two words may say, by the program's counts and what the source sets
-- one_if, literal_count, row_count   — 1 where a test holds; how many literals a set has; how many rows a lemma has
-- lemma_read                         — a lemma and where reading goes on
-- eight_rows                         — eight rows of zeros
-- BeginsAs, ListedAs                 — an answer says how many lemmas are read and where reading goes on, or how many a list has, and the list that was lent
--                                      where each begins; or it is the refusal, and nothing is said of the list
use Rattle.std.specs.Prelude.{◌≡◌, Result, Ok, Err, Bool, false, cond, ◌&&◌, ◌||◌, not, List, [], ℕ, zero, suc, ◌+◌, eqb, ltb, length, get_or, replicate}
use Rattle.std.proofs.lemmas.List.Edits.{sets}
use Rattle.words.specs.Words.{bits}
use Rattle.words.specs.declared.Refusal.{Refusal}
use Rattle.grammar.specs.Reading.{Read, got, refused}
use Rattle.grammar.specs.Programs.{Program}
use Rattle.grammar.specs.Grammar.{literals_allowed}
use Rattle.grammar.proofs.ProgramLaws.{Accepted}
use Rattle.reader.specs.Results.{outcome, zero_row}
use Rattle.rows.specs.declared.Row.{Row}
use Rattle.actions.specs.Results.{variables_set, none_set}
use Rattle.programs.specs.Calls.{read}
use Rattle.programs.specs.Images.{image_of}
use Rattle.programs.specs.Places.{places}
use Rattle.programs.specs.declared.Image.{Image}
use Rattle.programs.specs.declared.Shape.{Shape}
use Rattle.words.specs.LiteralSets.{has}
use Rattle.runs.specs.Runs.{action_of}
use Rattle.lemmas.specs.Lemmas.{goal_number, Lemma, START, source_rows, new_rows}
use Rattle.lemmas.specs.LemmaGrammar.{encode_lemma}
use Rattle.lemmas.specs.declared.Source.{Source}
use Rattle.lemmas.specs.declared.LemmaRead.{LemmaRead}

abbrev pub program_of : Read Program → Program
program_of (got p ws i) = p
program_of (refused r) = record { ranges = []; start = []; predicates = []; actions = []; forbidden = [] }

abbrev pub the_program : List ℕ → Program
the_program ws = program_of (read ws)

pub record Held (ws : List ℕ) (image : Image) : Type 0 where
  pub accepted : Accepted ws (the_program ws)
  pub same : image ≡ image_of (the_program ws)

abbrev pub eight_rows : List Row
eight_rows = replicate 8 zero_row

abbrev pub source_of : Program → ℕ → Source
source_of p s = record { count = length (source_rows p s); rows = sets eight_rows 0 (source_rows p s); new = new_rows p s }

abbrev pub shape_of : Program → ℕ → Shape
shape_of p s = record { count = length (source_rows p s); set = variables_set none_set (action_of p s).sets }

abbrev pub slot_of : ℕ → ℕ
slot_of s = cond (ltb s 16) s (cond (eqb s START) 16 17)

abbrev pub Slotted : {A : Type 0} → (ℕ → A) → List A → Type 0
Slotted {A} f t = (d : A) (s : ℕ) → get_or t (slot_of s) d ≡ f s

abbrev pub goal_by : ℕ → List Bool → ℕ → ℕ → Bool
goal_by preds set zero i = eqb i 0
goal_by preds set (suc zero) i = ltb i preds
goal_by preds set (suc (suc zero)) i = ltb i preds
goal_by preds set (suc (suc (suc zero))) i = get_or set i false
goal_by preds set (suc (suc (suc (suc zero)))) i = get_or set i false
goal_by preds set (suc (suc (suc (suc (suc g))))) i = false

abbrev pub head_by : ℕ → ℕ → List Bool → ℕ → Bool
head_by actions preds set w = eqb (bits 15 8 w) 0 && (eqb (bits 27 20 w) START || ltb (bits 27 20 w) actions) && goal_by preds set (bits 19 16 w) (bits 7 0 w)

abbrev pub premises_by : ℕ → ℕ → ℕ → Bool
premises_by preds source set = literals_allowed preds set && (not (eqb source START) || eqb set 0)

abbrev pub one_if : Bool → ℕ
one_if b = cond b 1 0

-- the literals of n predicates from i on
unfoldable pub literal_count : ℕ → ℕ → ℕ → ℕ
literal_count i zero set = 0
literal_count i (suc n) set = one_if (has i set) + (one_if (has (14 + i) set) + literal_count (suc i) n set)

abbrev pub row_count : ℕ → ℕ → ℕ → ℕ → ℕ
row_count goal preds set count = one_if (not (eqb goal 0)) + (literal_count 0 preds set + count)

abbrev pub lemma_read : Read Lemma → Result (LemmaRead × ℕ) Refusal
lemma_read m = outcome (λ l i. (record { source = l.source; goal = goal_number l.goal; index = l.index; premises = l.premises }, i)) m

-- where the lemmas begin is put into a list that was `ns`
abbrev pub BeginsAs : List ℕ → Read (List Lemma) → Result (ℕ × ℕ) Refusal → List ℕ → Type 0
BeginsAs ns (got ls ws j) r l = (r ≡ Ok (length ls, j)) × (l ≡ sets ns 0 (places encode_lemma 0 ls))
BeginsAs ns (refused x) r l = r ≡ Err x

abbrev pub ListedAs : List ℕ → Read (List Lemma) → Result ℕ Refusal → List ℕ → Type 0
ListedAs ns (got ls ws j) r l = (r ≡ Ok (length ls)) × (l ≡ sets ns 0 (places encode_lemma 0 ls))
ListedAs ns (refused x) r l = r ≡ Err x
