-- What the call Findings answers and leaves in the two lent lists, for any four lists. What that is worth is in Worth.
--
-- Listing              — the answer, and the graph and findings lists at exit
-- keep                 — an answer that leaves the findings list
-- list_all             — all findings at the front of the list, zeros to its end; or refusal 12, where they do not fit
-- list_survey, listing — Findings: a survey's findings listed; refusals in the order 1 graph, then the survey's, then 12
use Rattle.std.specs.Prelude.{cond, List, ◌++◌, map, ℕ, ◌-◌, ltb, length, replicate, Result, Ok, Err}
use Rattle.words.specs.declared.Refusal.{Refusal}
use Rattle.words.specs.declared.Refusal.TheVariants.{Short, Findings}
use Rattle.programs.specs.Calls.{read}
use Rattle.records.specs.Records.{graph_words}
use Rattle.survey.specs.Surveys.{Survey, stops, draws, survey_program}
use Rattle.verdict.specs.Verdicts.{findings}
use Rattle.verdict.specs.declared.Finding.{Finding}
use Rattle.sheet.specs.Sheets.{finding_word}

pub record Listing : Type 0 where
  pub answer : Result ℕ Refusal
  pub graph : List ℕ
  pub list : List ℕ

abbrev pub keep : Result ℕ Refusal → List ℕ → List ℕ → Listing
keep r gl fl = record { answer = r; graph = gl; list = fl }

-- The answer is the number of findings. Unused words of the lent list are zeroed.
abbrev pub list_all : List Finding → List ℕ → List ℕ → Listing
list_all fs gl fl =
    cond (ltb (length fl) (length fs)) (keep (Err (Findings (length fs))) gl fl)
    (record { answer = Ok (length fs); graph = gl; list = map finding_word fs ++ replicate (length fl - length fs) 0 })

abbrev pub list_survey : Survey → List ℕ → Listing
list_survey (stops r gl) fl = keep (Err r) gl fl
list_survey (draws p ls g gl) fl = list_all (findings p ls g) gl fl

abbrev pub listing : List ℕ → List ℕ → List ℕ → List ℕ → Listing
listing ws lemmas gl fl = cond (ltb (length gl) graph_words) (keep (Err (Short 0)) gl fl) (list_survey (survey_program (read ws) lemmas gl) fl)
