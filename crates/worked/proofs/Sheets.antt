-- Worked sheets, about the definition that the contract of Findings says its answer equals.
--
-- listed — an answer with what Findings leaves in the lent lists: records with zeros up to their room and then what was there; words with zeros to the list's end
-- Lists  — Findings answers so, whatever a graph list that is long enough and a findings list that has the room hold
-- Short  — it refuses with 12 and the number of words needed, fills the graph list and leaves a findings list that is shorter than that
-- Sheets, sheets — the sheets, and their proof
use mathlib.Core.Path.{◌≡◌, refl, ◌∙◌}
use mathlib.Core.Bool.{true, false}
use mathlib.Core.List.{List, [], ◌∷◌, ◌++◌, map}
use Prim.Native.Nat.{ℕ, ◌<◌, ◌≤◌, ◌-◌}
use borrow.Author.Tests.{lt-ltb, le-ltb}
use lib.ListN.{length, replicate, drop}
use Rattle.std.specs.Prelude.{Result, Ok, Err}
use Rattle.words.specs.declared.Refusal.{Refusal}
use Rattle.words.specs.declared.Refusal.TheVariants.{Findings}
use Rattle.rows.specs.Rows.{dot, corner}
use Rattle.grammar.specs.Reading.{due, one, times, many}
use Rattle.grammar.specs.Grammar.{program, ranges, rows, end, coefs, row, assignment, sets, action}
use Rattle.actions.specs.NewRows.{assigned}
use Rattle.programs.specs.Calls.{read}
use Rattle.sums.specs.Sums.{plus_times, combine}
use Rattle.lemmas.specs.LemmaGrammar.{sets_variable, lemma, list}
use Rattle.frame.specs.Frame.{zero_on}
use Rattle.formula.specs.Formula.{conjuncts}
use Rattle.search.specs.Search.{links_in, turns, visited, explored}
use Rattle.records.specs.Records.{graph_words, edge_row, records_of}
use Rattle.words.specs.LiteralSets.{literals_in, set_of}
use Rattle.abstraction.specs.Abstraction.{among, all_among, applies}
use Rattle.tables.specs.Off.{first_off}
use Rattle.verdict.specs.Verdicts.{contradicted, forbids, runs_off, findings_from}
use Rattle.verdict.specs.declared.Finding.{Finding}
use Rattle.verdict.specs.declared.Finding.TheVariants.{Forbid, RunOff}
use Rattle.verdict.specs.Verdicts.{ends as rangeEnds}
use Rattle.survey.specs.Surveys.{survey_program}
use Rattle.sheet.specs.Sheets.{finding_word}
use Rattle.findings.specs.Calls.{Listing, list_all, list_survey, listing}
use Rattle.worked.specs.Shows.{fade, fade_lemmas, fade_others, house}
use Rattle.worked.specs.MoreLemmas.{house_before, house_behind}
use Rattle.worked.proofs.Table.{fade_records, bare_records, cut_records}

abbrev pub listed : Result ℕ Refusal → List ℕ → List ℕ → List ℕ → Listing
listed r records gl fl = record { answer = r; graph = records ++ (replicate (graph_words - length records) 0 ++ drop graph_words gl); list = fl }

abbrev pub Lists : List ℕ → List ℕ → ℕ → List ℕ → List ℕ → Type 0
Lists ws lemmas n records words =
    (gl fl : List ℕ) → graph_words ≤ length gl → n ≤ length fl → listing ws lemmas gl fl ≡ listed (Ok n) records gl (words ++ replicate (length fl - n) 0)

abbrev pub Short : List ℕ → List ℕ → ℕ → List ℕ → Type 0
Short ws lemmas n records =
    (gl fl : List ℕ) → graph_words ≤ length gl → length fl < n → listing ws lemmas gl fl ≡ listed (Err (Findings n)) records gl fl

-- House with no lemmas: its forbidden combination, and both ends of what each of its four actions sets, house, level, level, house
abbrev pub bare_findings : List ℕ
bare_findings =
    0xE0000000
    ∷ 0xE0040800 ∷ 0xE0040801
    ∷ 0xE0044000 ∷ 0xE0044001
    ∷ 0xE0048000 ∷ 0xE0048001
    ∷ 0xE004C800 ∷ 0xE004C801 ∷ []

pub record Sheets : Type 0 where
  -- Fade is safe: none
  pub fade-none : Lists fade fade_lemmas 0 fade_records []
  -- without its first lemma: action 0 may take the level below its low end
  pub fade-first : Lists fade fade_others 1 fade_records (0xE0040000 ∷ [])
  -- with no lemmas: both ends of both actions
  pub fade_bare : Lists fade [] 4 fade_records (0xE0040000 ∷ 0xE0040001 ∷ 0xE0044000 ∷ 0xE0044001 ∷ [])
  pub house_bare : Lists house [] 9 bare_records bare_findings
  -- a list that is one word short, or more
  pub house_short : Short house [] 9 bare_records
  -- without the lemmas that P0 fails at the start and by action 0: the combination, at node 1 of five
  pub house-path : Lists house (house_before ++ house_behind) 1 cut_records (0xE0080000 ∷ [])

-- a graph list that is long enough passes the first test; whether the findings fit is the last one
module _ (ws lemmas records : List ℕ) (fs : List Finding)
    (found : (gl fl : List ℕ) → list_survey (survey_program (read ws) lemmas gl) fl ≡ list_all fs (records ++ (replicate (graph_words - length records) 0 ++ drop graph_words gl)) fl) where
  pub fits : Lists ws lemmas (length fs) records (map finding_word fs)
  fits gl fl long room = rw (le-ltb (length gl) graph_words long) (found gl fl ∙ rw (le-ltb (length fl) (length fs) room) refl)

  short : Short ws lemmas (length fs) records
  short gl fl long none = rw (le-ltb (length gl) graph_words long) (found gl fl ∙ rw (lt-ltb (length fl) (length fs) none) refl)

abbrev fade_all : List Finding
fade_all = RunOff 0 0 0 false ∷ RunOff 0 0 0 true ∷ RunOff 0 1 0 false ∷ RunOff 0 1 0 true ∷ []

abbrev bare_all : List Finding
bare_all =
    Forbid 0 0
    ∷ RunOff 0 0 1 false ∷ RunOff 0 0 1 true
    ∷ RunOff 0 1 0 false ∷ RunOff 0 1 0 true
    ∷ RunOff 0 2 0 false ∷ RunOff 0 2 0 true
    ∷ RunOff 0 3 1 false ∷ RunOff 0 3 1 true ∷ []

pub sheets : Sheets
unfolding
    program ranges rows end coefs row assignment sets action due one times many sets_variable lemma list assigned plus_times combine
    dot corner first_off zero_on conjuncts explored visited turns links_in literals_in among all_among applies set_of contradicted forbids runs_off rangeEnds
    findings_from edge_row records_of
sheets =
    record {
      fade-none = fits fade fade_lemmas fade_records [] (λ gl fl. refl);
      fade-first = fits fade fade_others fade_records (RunOff 0 0 0 false ∷ []) (λ gl fl. refl);
      fade_bare = fits fade [] fade_records fade_all (λ gl fl. refl);
      house_bare = fits house [] bare_records bare_all (λ gl fl. refl);
      house_short = short house [] bare_records bare_all (λ gl fl. refl);
      house-path = fits house (house_before ++ house_behind) cut_records (Forbid 1 0 ∷ []) (λ gl fl. refl);
    }
