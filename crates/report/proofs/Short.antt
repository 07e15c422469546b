-- The lines of every answer of Judge have room in 4,096 bytes.
use mathlib.Core.Bool.{Bool, true, false, cond}
use mathlib.Core.List.{List, [], ◌∷◌}
use Prim.Native.Nat.{ℕ, ◌+◌, ◌%◌, ◌<◌, ◌≤◌}
use native.Mathlib.Omega.{arith}
use lib.Dec.{eqb, ltb}
use lib.ListN.{length, length-append}
use Rattle.words.specs.declared.Refusal.{Refusal}
use Rattle.words.specs.declared.Refusal.TheVariants.{Short}
use Rattle.words.specs.Refusals.{number, value}
use Rattle.grammar.specs.Programs.{Program}
use Rattle.grammar.specs.WellFormed.{WellFormed, Each}
use Rattle.programs.specs.Calls.{read}
use Rattle.lemmas.specs.Lemmas.{Lemma}
use Rattle.search.specs.Search.{Graph, count, links}
use Rattle.records.specs.Records.{most_nodes, graph_words}
use Rattle.abstraction.specs.Faithful.{Faithful}
use Rattle.verdict.specs.Verdicts.{findings, node_of, steps_in, steps_to, path_words, path_list}
use Rattle.verdict.specs.declared.Finding.{Finding}
use Rattle.verdict.specs.declared.Finding.TheVariants.{Forbid, RunOff}
use Rattle.survey.specs.Surveys.{Survey, stops, draws, survey_program}
use Rattle.judge.specs.Calls.{Judgement, verdict, path_to, judge_survey, judge}
use Rattle.std.specs.Prelude.{Ok, Err}
use Rattle.judge.proofs.Walks.{findings-within}
use Rattle.judge.proofs.Promised.{Worth, survey-worth, of-judge}
use Rattle.judge.proofs.StepWords.{steps-told}
use Rattle.show.specs.declared.Unread.TheVariants.{TooLong, OddBytes}
use Rattle.show.specs.Show.{most_bytes, words_in, logic_in, lemmas_in, of_words, of_bytes}
use Rattle.lines.specs.Text.{text, decimal, line}
use Rattle.lines.proofs.Puts.{length-line}
use Rattle.lines.proofs.Decimals.{decimal_short}
use Rattle.report.specs.Report.{lines_room, zeros, forbid_line, end_text, run_off_line, path_line, answer_lines, shown_lines, lines_of}
use Rattle.report.proofs.Sizes.{length-run-off, length-path}
use Rattle.report.proofs.Paths.{steps-room}

abbrev Room : Judgement → Type 0
Room j = length (answer_lines j.answer j.path) ≤ lines_room

line_short : (t : List ℕ) (n : ℕ) (u : List ℕ) (m : ℕ) → length (line t n u m) ≤ length t + length u + 41
line_short t n u m = omega (arith, length-line t n u m, length-append t (decimal n), length-append u (decimal m), decimal_short n, decimal_short m)

refused-room : (r : Refusal) (pl : List ℕ) → length (answer_lines (Err r) pl) ≤ lines_room
unfolding answer_lines
refused-room r pl = omega (arith, line_short (text "REFUSED ") (number r) (text " AT ") (value r))

end_short : (high : Bool) → length (end_text high) ≤ 6
end_short true = omega arith
end_short false = omega arith

run_off_short : (n a v : ℕ) (high : Bool) → length (run_off_line n a v high) ≤ 96
run_off_short n a v high = omega (arith, length-run-off n a v high, decimal_short n, decimal_short a, decimal_short v, end_short high)

module _ (p : Program) (ok : WellFormed p) (ls : List Lemma) (g : Graph) (f : Faithful p ls g) (few : count g ≤ most_nodes) where
  path-short : (k : ℕ) → k < count g → length (path_line (steps_in (path_list (steps_to g k) (zeros path_words)))) ≤ 1541
  path-short k h = rw (steps-told p ok ls g f few k h (zeros path_words)) (omega (arith, length-path (steps_to g k), steps-room p ok ls g f few k h))

  finding-room : (fs : List Finding) → Each (λ f. node_of f < count g) fs → length (answer_lines (Ok (verdict g fs)) (path_list (path_to g fs) (zeros path_words))) ≤ lines_room
  unfolding answer_lines
  finding-room [] h = omega (arith, line_short (text "SAFE nodes ") (count g) (text " edges ") (links g))
  finding-room (Forbid k b ∷ fs) h = omega (arith, length-append (forbid_line k b) (path_line (steps_in (path_list (steps_to g k) (zeros path_words)))), line_short (text "FORBID node ") k (text " bad ") b, path-short k h.0)
  finding-room (RunOff k j v high ∷ fs) h = omega (arith, length-append (run_off_line k j v high) (path_line (steps_in (path_list (steps_to g k) (zeros path_words)))), run_off_short k j v high, path-short k h.0)

survey-room : (ws lemmas gl : List ℕ) (s : Survey) → Worth ws lemmas gl s → Room (judge_survey s (zeros path_words))
survey-room ws lemmas gl (stops r gl') w = refused-room r (zeros path_words)
survey-room ws lemmas gl (draws p ls g gl') w = finding-room p w.good ls g w.drawn.faithful w.drawn.few (findings p ls g) (findings-within p ls g)

judged-room : (logic lemmas : List ℕ) → Room (judge logic lemmas (zeros graph_words) (zeros path_words))
judged-room logic lemmas =
    let gl = zeros graph_words in
    let pl = zeros path_words in
    of-judge logic lemmas gl pl Room (λ n. refused-room (Short n) pl) (survey-room logic lemmas gl (survey_program (read logic) lemmas gl) (survey-worth logic lemmas gl))

pub lines_room_lem : (b : List ℕ) → length (lines_of b) ≤ lines_room
unfolding lines_of shown_lines of_bytes
lines_room_lem b = go (ltb most_bytes (length b)) (eqb (length b % 4) 0)
  where
    go : (long whole : Bool) → let s = cond long (record { answer = Err TooLong; graph = zeros graph_words; path = zeros path_words })
        (cond whole (of_words (words_in b) (zeros graph_words) (zeros path_words)) (record { answer = Err OddBytes; graph = zeros graph_words; path = zeros path_words }))
        in length (shown_lines s.answer s.path) ≤ lines_room
    go true whole = omega arith
    go false true = judged-room (logic_in (words_in b)) (lemmas_in (words_in b))
    go false false = omega arith
