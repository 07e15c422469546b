-- A line that begins with SAFE: the logic in the bytes is a program, and it is safe.
use mathlib.Core.Path.{◌≡◌, refl, sym, ap, ◌∙◌}
use mathlib.Core.List.{List, []}
use Rattle.std.specs.Prelude.{Result, Ok, Err}
use Prim.Native.Nat.{ℕ}
use native.Mathlib.Omega.{arith}
use lib.ListN.{get_or}
use lib.Seq.{get_or-take}
use Rattle.records.specs.Records.{graph_words}
use Rattle.verdict.specs.Verdicts.{path_words}
use Rattle.judge.specs.declared.Judged.{Judged}
use Rattle.judge.specs.declared.Judged.TheVariants.{MayForbid, MayRunOff}
use Rattle.judge.specs.declared.Judged.TheVariants.{Safe as IsSafe}
use Rattle.words.specs.declared.Refusal.{Refusal}
use Rattle.show.specs.declared.Answered.{Answered}
use Rattle.show.specs.declared.Unread.{Unread}
use Rattle.show.specs.declared.Unread.TheVariants.{WordsShort, TooLong, OddBytes}
use Rattle.show.specs.Show.{of_bytes, SafeShow}
use Rattle.show.proofs.Safe.{bytes-safe}
use Rattle.lines.specs.Text.{text, line}
use Rattle.report.specs.Report.{zeros, run_off_line, answer_lines, shown_lines, lines_of, Begins}

-- the first byte is an S
first_byte : (l : List ℕ) → Begins (text "SAFE") l → get_or l 0 0 ≡ 83
first_byte l h = sym (get_or-take 4 l 0 0 (omega arith)) ∙ ap (λ (x : List ℕ). get_or x 0 0) h

answer-safe : (a : Result Judged Refusal) (path : List ℕ) → Begins (text "SAFE") (answer_lines a path) → (n : ℕ) × (e : ℕ) × (a ≡ Ok (IsSafe n e))
unfolding answer_lines line run_off_line
answer-safe (Ok (IsSafe n e)) path h = (n, e, refl)
answer-safe (Ok (MayForbid k b n e)) path h = absurd (omega (arith, first_byte (answer_lines (Ok (MayForbid k b n e)) path) h))
answer-safe (Ok (MayRunOff k j v high n e)) path h = absurd (omega (arith, first_byte (answer_lines (Ok (MayRunOff k j v high n e)) path) h))
answer-safe (Err r) path h = absurd (omega (arith, first_byte (answer_lines (Err r) path) h))

lines_safe : (s : Result Answered Unread) (path : List ℕ) → Begins (text "SAFE") (shown_lines s path)
    → (a : Answered) × (n : ℕ) × (e : ℕ) × (s ≡ Ok a) × (a.judged ≡ Ok (IsSafe n e))
unfolding shown_lines
lines_safe (Err WordsShort) path h = absurd (omega (arith, first_byte [] h))
lines_safe (Err TooLong) path h = absurd (omega (arith, first_byte (text "TOO LONG\n") h))
lines_safe (Err OddBytes) path h = absurd (omega (arith, first_byte (text "ODD BYTES\n") h))
lines_safe (Ok a) path h = let (n, e, is) = answer-safe a.judged path h in (a, n, e, refl, is)

pub show-safe : (b : List ℕ) → Begins (text "SAFE") (lines_of b) → SafeShow b
unfolding lines_of
show-safe b h =
    let s = of_bytes b (zeros graph_words) (zeros path_words) in
    let (a, n, e, is, at) = lines_safe s.answer s.path h in
    bytes-safe b (zeros graph_words) (zeros path_words) a n e at is
