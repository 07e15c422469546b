-- The lines that the operator's program prints for the bytes of a show.
--
-- lines_room   — how many bytes the lines of a show have room in
-- zeros        — a fresh list
-- safe_line, forbid_line, end_text, run_off_line, refused_line, step_text, path_line — the lines, each with its newline, and their parts
-- answer_lines, shown_lines — the lines of Judge's answer and its path list; of an answer for a show's bytes
-- lines_of     — the lines of any bytes
-- written      — what goes to a list of bytes: the lines; nothing if it has under 4,096
-- Begins, Ends — a list begins, ends with another
-- ShortestShow — request 7: the bytes hold a program and lemmas; no walk in their graph from node 0 to a node with a finding has fewer than n steps, and
--                every run with fewer moves is safe
use Rattle.std.specs.Prelude.{◌≡◌, Bool, cond, List, [], ◌∷◌, ◌++◌, ℕ, ltb, length, take, replicate, Result, Ok, Err}
use Rattle.words.specs.declared.Refusal.{Refusal}
use Rattle.words.specs.Refusals.{number, value}
use Rattle.programs.specs.Calls.{read}
use Rattle.search.specs.Search.{Graph}
use Rattle.records.specs.Records.{graph_words}
use Rattle.abstraction.specs.Faithful.{Faithful}
use Rattle.verdict.specs.Verdicts.{path_words, steps_in}
use Rattle.judge.specs.Worth.{OfRead}
use Rattle.judge.specs.Shortest.{Least, SafeBefore}
use Rattle.judge.specs.declared.Judged.{Judged}
use Rattle.judge.specs.declared.Judged.TheVariants.{MayForbid, MayRunOff}
use Rattle.judge.specs.declared.Judged.TheVariants.{Safe as IsSafe}
use Rattle.show.specs.declared.Answered.{Answered}
use Rattle.show.specs.declared.Unread.{Unread}
use Rattle.show.specs.declared.Unread.TheVariants.{WordsShort, TooLong, OddBytes}
use Rattle.show.specs.Show.{words_in, logic_in, lemmas_in, of_bytes}
use Rattle.lines.specs.Text.{text, field, line}

abbrev pub lines_room : ℕ
lines_room = 4096

unfoldable pub zeros : ℕ → List ℕ
zeros n = replicate n 0

-- ---- the lines
abbrev pub safe_line : ℕ → ℕ → List ℕ
safe_line nodes edges = line (text "SAFE nodes ") nodes (text " edges ") edges

abbrev pub forbid_line : ℕ → ℕ → List ℕ
forbid_line node bad = line (text "FORBID node ") node (text " bad ") bad

abbrev pub end_text : Bool → List ℕ
end_text high = cond high (text " high\n") (text " low\n")

unfoldable pub run_off_line : ℕ → ℕ → ℕ → Bool → List ℕ
run_off_line node action variable high =
    field (text "RUNOFF node ") node ++ field (text " action ") action ++ field (text " variable ") variable ++ end_text high

abbrev pub refused_line : Refusal → List ℕ
refused_line r = line (text "REFUSED ") (number r) (text " AT ") (value r)

unfoldable pub step_text : List ℕ → List ℕ
step_text [] = []
step_text (j ∷ js) = field (text " ") j ++ step_text js

unfoldable pub path_line : List ℕ → List ℕ
path_line js = text "PATH" ++ step_text js ++ text "\n"

unfoldable pub answer_lines : Result Judged Refusal → List ℕ → List ℕ
answer_lines (Ok (IsSafe nodes edges)) path = safe_line nodes edges
answer_lines (Ok (MayForbid node bad nodes edges)) path = forbid_line node bad ++ path_line (steps_in path)
answer_lines (Ok (MayRunOff node action variable high nodes edges)) path = run_off_line node action variable high ++ path_line (steps_in path)
answer_lines (Err r) path = refused_line r

-- The program lends enough words, so that the first Err is never printed.
unfoldable pub shown_lines : Result Answered Unread → List ℕ → List ℕ
shown_lines (Ok a) path = answer_lines a.judged path
shown_lines (Err WordsShort) path = []
shown_lines (Err TooLong) path = text "TOO LONG\n"
shown_lines (Err OddBytes) path = text "ODD BYTES\n"

unfoldable pub lines_of : List ℕ → List ℕ
lines_of b = let s = of_bytes b (zeros graph_words) (zeros path_words) in shown_lines s.answer s.path

abbrev pub written : List ℕ → List ℕ → List ℕ
written b lines = cond (ltb (length lines) lines_room) [] (lines_of b)

-- ---- what a line is worth
abbrev pub Begins : List ℕ → List ℕ → Type 0
Begins t l = take (length t) l ≡ t

abbrev pub Ends : List ℕ → List ℕ → Type 0
Ends t l = (front : List ℕ) × (l ≡ front ++ t)

abbrev pub ShortestShow : List ℕ → ℕ → Type 0
ShortestShow b n =
    OfRead (λ p ls. (g : Graph) × Faithful p ls g × Least p ls g n × SafeBefore p n) (read (logic_in (words_in b))) (lemmas_in (words_in b))
