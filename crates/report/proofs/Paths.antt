-- The actions of a path that Judge leaves, each below 16, have room in 1,536 bytes.
use mathlib.Core.List.{List, [], ◌∷◌}
use Prim.Native.Nat.{ℕ, ◌*◌, ◌<◌, ◌≤◌}
use native.Mathlib.Omega.{arith}
use lib.ListN.{length, length-append}
use Rattle.grammar.specs.Programs.{Program}
use Rattle.grammar.specs.WellFormed.{WellFormed}
use Rattle.lemmas.specs.Lemmas.{Lemma}
use Rattle.search.specs.Search.{Graph, count}
use Rattle.records.specs.Records.{most_nodes}
use Rattle.abstraction.specs.Faithful.{Faithful}
use Rattle.verdict.specs.Verdicts.{steps_to}
use Rattle.judge.proofs.StepWords.{Actions, actions-to, steps-few}
use Rattle.lines.specs.Text.{text, field}
use Rattle.lines.proofs.Decimals.{two_digits}
use Rattle.report.specs.Report.{step_text}

-- three bytes for each
steps_short : (js : List ℕ) → Actions js → length (step_text js) ≤ length js * 3
unfolding step_text
steps_short [] h = omega arith
steps_short (j ∷ js) h =
    let low : j < 16 = h.0 in
    omega (arith, length-append (field (text " ") j) (step_text js), two_digits j (omega arith), steps_short js h.1)

pub steps-room : (p : Program) → WellFormed p → (ls : List Lemma) (g : Graph) → Faithful p ls g → count g ≤ most_nodes → (k : ℕ) → k < count g → length (step_text (steps_to g k)) ≤ 1536
steps-room p ok ls g f few k h = omega (arith, steps_short (steps_to g k) (actions-to p ok ls g f few k h), steps-few p ok ls g f few k h)
