-- Some input whose line begins with SAFE: the bytes of Fade and its lemmas.
use mathlib.Core.Path.{◌≡◌, refl, ap}
use mathlib.Core.List.{◌++◌}
use Prim.Native.Nat.{ℕ, ◌≤◌}
use native.Mathlib.Omega.{arith}
use lib.ListN.{length, length-replicate}
use Rattle.records.specs.Records.{graph_words}
use Rattle.verdict.specs.Verdicts.{path_words}
use Rattle.judge.specs.Calls.{Judgement, judge}
use Rattle.judge.specs.declared.Judged.TheVariants.{Safe}
use Rattle.std.specs.Prelude.{Ok}
use Rattle.lines.specs.Text.{text, spelled, decimal, line}
use Rattle.little.specs.LittleEndian.{words_of, bytes_of}
use Rattle.show.specs.Show.{logic_length, words_in, logic_in, lemmas_in, of_bytes}
use Rattle.report.specs.Report.{zeros, answer_lines, shown_lines, lines_of}
use Rattle.worked.specs.Shows.{fade, fade_lemmas}
use Rattle.worked.proofs.Table.{worked}

fade-words : words_in (bytes_of (fade ++ fade_lemmas)) ≡ fade ++ fade_lemmas
unfolding words_of bytes_of
fade-words = refl

fade_logic : (logic_in (fade ++ fade_lemmas) ≡ fade) × (lemmas_in (fade ++ fade_lemmas) ≡ fade_lemmas)
unfolding logic_length
fade_logic = (refl, refl)

pub long : (n : ℕ) → n ≤ length (zeros n)
unfolding zeros
long n = omega (arith, length-replicate {A = ℕ} n 0)

fade-judged : (judge fade fade_lemmas (zeros graph_words) (zeros path_words)).answer ≡ Ok (Safe 1 2)
fade-judged = ap (λ (j : Judgement). j.answer) (worked.a (zeros graph_words) (zeros path_words) (long graph_words) (long path_words))

pub fade-line : lines_of (bytes_of (fade ++ fade_lemmas)) ≡ text "SAFE nodes 1 edges 2\n"
unfolding lines_of of_bytes shown_lines bytes_of answer_lines line decimal spelled
fade-line = rw (fade-words, fade_logic.0, fade_logic.1, fade-judged) spelled_out
  where
    spelled_out : answer_lines (Ok (Safe 1 2)) (judge fade fade_lemmas (zeros graph_words) (zeros path_words)).path ≡ text "SAFE nodes 1 edges 2\n"
    spelled_out = refl
