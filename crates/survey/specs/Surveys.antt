-- What every judging of a show begins with: the program read, its lemmas read and weighed, and the graph explored.
--
-- Survey — how that ends: a refusal, with the graph list as it leaves it; or a program, its lemmas and their graph, with its records in the graph list
-- survey_graph, survey_lemmas, survey_program — the survey of lists of words over a graph list long enough; refusals in the order 2 to 4, 5 and 6, 11, 7
use Rattle.std.specs.Prelude.{cond, List, ℕ, ltb, length}
use Rattle.words.specs.declared.Refusal.{Refusal}
use Rattle.words.specs.declared.Refusal.TheVariants.{Nodes, Sum}
use Rattle.grammar.specs.Reading.{Read, got, refused}
use Rattle.grammar.specs.Programs.{Program}
use Rattle.lemmas.specs.Lemmas.{Lemma}
use Rattle.lemmas.specs.LemmaGrammar.{read_lemmas}
use Rattle.search.specs.Search.{Graph, Result, Done, Over}
use Rattle.records.specs.Records.{graph_list}
use Rattle.abstraction.specs.Abstraction.{graph}
use Rattle.tables.specs.Off.{first_off}

pub data Survey : Type 0 where
  stops : Refusal → List ℕ → Survey
  draws : Program → List Lemma → Graph → List ℕ → Survey

-- Refusal 7 zeroes the first 9,728 words of the graph list; the others leave it.
abbrev pub survey_graph : Program → List Lemma → Result → List ℕ → Survey
survey_graph p ls Over gl = stops Nodes (graph_list (length p.actions) Over gl)
survey_graph p ls (Done g) gl = draws p ls g (graph_list (length p.actions) (Done g) gl)

abbrev pub survey_lemmas : Program → Read (List Lemma) → List ℕ → Survey
survey_lemmas p (refused r) gl = stops r gl
survey_lemmas p (got ls ws i) gl = cond (ltb (first_off p ls) (length ls)) (stops (Sum (first_off p ls)) gl) (survey_graph p ls (graph p ls) gl)

abbrev pub survey_program : Read Program → List ℕ → List ℕ → Survey
survey_program (refused r) lemmas gl = stops r gl
survey_program (got p ws i) lemmas gl = survey_lemmas p (read_lemmas p lemmas) gl
