-- What a survey leaves to be judged. Only contracts of functions within the project cite these.
--
-- Ready    — a survey is of a program, its lemmas and their graph; the entries are of the accepted ones, and a list holds the graph
-- Stands   — a survey is of some program, lemmas and graph
-- Complete — a survey is of the show in two lists of words, the entries begin with those of its accepted lemmas, and the graph list holds its graph
-- SurveyOf — what the survey of two lists of words comes to: complete, or stopped by the refusal
use Rattle.std.specs.Prelude.{◌≡◌, List, map, ℕ, ◌≤◌, length, take, Result, MatchResult}
use Rattle.words.specs.declared.Refusal.{Refusal}
use Rattle.grammar.specs.Programs.{Program}
use Rattle.grammar.specs.WellFormed.{Each, WellFormed}
use Rattle.programs.specs.Calls.{read}
use Rattle.programs.specs.Images.{image_of}
use Rattle.lemmas.specs.Lemmas.{Lemma}
use Rattle.lemmas.specs.LemmaGrammar.{LemmaOk}
use Rattle.lemmas.specs.Sources.{the_program}
use Rattle.frame.specs.Masks.{masks_of}
use Rattle.gather.specs.Gathering.{entry_of}
use Rattle.gather.specs.declared.Entry.{Entry}
use Rattle.search.specs.Search.{Graph, Done, count, links}
use Rattle.records.specs.Records.{graph_list}
use Rattle.abstraction.specs.Abstraction.{graph}
use Rattle.abstraction.specs.Claims.{claims}
use Rattle.tables.specs.Tabled.{the_lemmas}
use Rattle.survey.specs.Surveys.{stops, draws, survey_program}
use Rattle.survey.specs.declared.Surveyed.{Surveyed}

pub record Ready (p : Program) (ls : List Lemma) (g : Graph) (es : List Entry) (s : Surveyed) (l : List ℕ) : Type 0 where
  pub good : WellFormed p
  pub same : s.image ≡ image_of p
  pub masks : s.kept ≡ masks_of p
  pub each : Each (LemmaOk p) ls
  pub is : graph p ls ≡ Done g
  pub nodes_are : s.nodes ≡ count g
  pub edges_are : s.edges ≡ links g
  pub tables : es ≡ map entry_of (claims p ls)
  pub before : List ℕ
  pub listed : l ≡ graph_list (length p.actions) (Done g) before

abbrev pub Stands : List Entry → Surveyed → List ℕ → Type 0
Stands es s l = (p : Program) × (ls : List Lemma) × (g : Graph) × Ready p ls g es s l

-- the graph list was `gl` and is `gl'`
pub record Complete (ws lemmas gl gl' : List ℕ) (es : List Entry) (s : Surveyed) : Type 0 where
  pub few : s.count ≤ length es
  pub made : Graph
  pub ready : Ready (the_program ws) (the_lemmas (the_program ws) lemmas) made (take s.count es) s gl'
  pub drawn : survey_program (read ws) lemmas gl ≡ draws (the_program ws) (the_lemmas (the_program ws) lemmas) made gl'

abbrev pub SurveyOf : List ℕ → List ℕ → List ℕ → List ℕ → List Entry → Result Surveyed Refusal → Type 0
SurveyOf ws lemmas gl gl' es r = MatchResult r (Complete ws lemmas gl gl' es) (λ why. survey_program (read ws) lemmas gl ≡ stops why gl')
