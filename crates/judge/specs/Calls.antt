-- What Judge answers and leaves in the two lent lists, for any four lists. What that is worth is in Worth.
--
-- Judgement           — the answer, and the graph and path lists at exit
-- keep                — an answer that leaves both lists
-- verdict             — the first finding with the counts of nodes and edges; none is safe
-- path_to             — the steps to the first finding's node; none for safe
-- judge_survey, judge — Judge: a survey judged; refusals in the order 1 graph, 1 path, then the survey's
use Rattle.std.specs.Prelude.{cond, List, [], ◌∷◌, ℕ, ltb, length, Result, Ok, Err}
use Rattle.words.specs.declared.Refusal.{Refusal}
use Rattle.words.specs.declared.Refusal.TheVariants.{Short}
use Rattle.programs.specs.Calls.{read}
use Rattle.search.specs.Search.{Graph, count, links}
use Rattle.records.specs.Records.{graph_words}
use Rattle.survey.specs.Surveys.{Survey, stops, draws, survey_program}
use Rattle.verdict.specs.Verdicts.{findings, node_of, steps_to, path_words, path_list}
use Rattle.verdict.specs.declared.Finding.{Finding}
use Rattle.verdict.specs.declared.Finding.TheVariants.{Forbid, RunOff}
use Rattle.judge.specs.declared.Judged.{Judged}
use Rattle.judge.specs.declared.Judged.TheVariants.{MayForbid, MayRunOff}
use Rattle.judge.specs.declared.Judged.TheVariants.{Safe as IsSafe}

pub record Judgement : Type 0 where
  pub answer : Result Judged Refusal
  pub graph : List ℕ
  pub path : List ℕ

abbrev pub keep : Result Judged Refusal → List ℕ → List ℕ → Judgement
keep r gl pl = record { answer = r; graph = gl; path = pl }

-- The first finding is the verdict; none is safe. Every verdict carries the counts of nodes and of EDGE words that name a successor.
abbrev pub verdict : Graph → List Finding → Judged
verdict g [] = IsSafe (count g) (links g)
verdict g (Forbid k b ∷ fs) = MayForbid k b (count g) (links g)
verdict g (RunOff k j v high ∷ fs) = MayRunOff k j v high (count g) (links g)

abbrev pub path_to : Graph → List Finding → List ℕ
path_to g [] = []
path_to g (f ∷ fs) = steps_to g (node_of f)

abbrev pub judge_survey : Survey → List ℕ → Judgement
judge_survey (stops r gl) pl = keep (Err r) gl pl
judge_survey (draws p ls g gl) pl = record { answer = Ok (verdict g (findings p ls g)); graph = gl; path = path_list (path_to g (findings p ls g)) pl }

abbrev pub judge : List ℕ → List ℕ → List ℕ → List ℕ → Judgement
judge ws lemmas gl pl =
    cond (ltb (length gl) graph_words) (keep (Err (Short 0)) gl pl)
    (cond (ltb (length pl) path_words) (keep (Err (Short 1)) gl pl) (judge_survey (survey_program (read ws) lemmas gl) pl))
