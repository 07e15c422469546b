-- The worked shows of the scope document in a single table, about the definitions that the calls' contracts say the answers equal.
--
-- fade_records .. house_records — the records that Judge leaves in the graph list; each line is a node's
-- left    — an answer with what Judge leaves in the lent lists: records and path, each with zeros up to its room and then what was there
-- Judges  — Judge answers so, whatever lent lists that are long enough hold
-- Counts  — Check answers with these five counts
-- Refuses — Check refuses with this number, and this one returned with it
-- Table, worked — what the document asks for, letter by letter, and its proof
use mathlib.Core.Path.{◌≡◌, refl}
use mathlib.Core.Bool.{false}
use mathlib.Core.List.{List, [], ◌∷◌, ◌++◌}
use Prim.Native.Nat.{ℕ, ◌<◌, ◌≤◌, ◌-◌}
use borrow.Author.Tests.{le-ltb}
use lib.ListN.{length, get_or, replicate, drop}
use Rattle.words.specs.Refusals.{number, value}
use Rattle.words.specs.declared.Refusal.{Refusal}
use Rattle.words.specs.declared.Refusal.TheVariants.{Word, Value}
use Rattle.rows.specs.Rows.{dot, corner}
use Rattle.grammar.specs.Reading.{got, due, one, times, many}
use Rattle.grammar.specs.Programs.{Program}
use Rattle.grammar.specs.Grammar.{program, ranges, rows, end, coefs, row, assignment, sets, action}
use Rattle.actions.specs.NewRows.{assigned}
use Rattle.programs.specs.Calls.{read, check}
use Rattle.std.specs.Prelude.{Ok, Err}
use Rattle.sums.specs.Sums.{plus_times, combine}
use Rattle.lemmas.specs.Lemmas.{Lemma}
use Rattle.lemmas.specs.LemmaGrammar.{read_lemmas, sets_variable, lemma, list}
use Rattle.ask.specs.Calls.{no_lemma, ask}
use Rattle.ask.specs.declared.Asked.TheVariants.{NotAccepted}
use Rattle.frame.specs.Frame.{zero_on}
use Rattle.formula.specs.Formula.{conjuncts}
use Rattle.search.specs.Search.{links_in, turns, visited, explored}
use Rattle.search.specs.Paths.{back}
use Rattle.records.specs.Records.{graph_words, edge_row, records_of}
use Rattle.words.specs.LiteralSets.{literals_in, set_of}
use Rattle.abstraction.specs.Abstraction.{among, all_among, applies}
use Rattle.tables.specs.Off.{first_off}
use Rattle.verdict.specs.Verdicts.{path_words, contradicted, forbids, runs_off, findings_from}
use Rattle.verdict.specs.Verdicts.{ends as rangeEnds}
use Rattle.survey.specs.Surveys.{survey_program}
use Rattle.judge.specs.Calls.{Judgement, judge_survey, judge}
use Rattle.judge.specs.declared.Judged.{Judged}
use Rattle.judge.specs.declared.Judged.TheVariants.{Safe, MayForbid, MayRunOff}
use Rattle.worked.specs.Shows.{fade, fade_lemmas, fade_others, house}
use Rattle.worked.specs.MoreLemmas.{fade_first_zero, house_lemmas, house_start, house_before, house_behind}
use Rattle.worked.proofs.Zeros.{Zeros, zeros-not-accepted}

abbrev pub fade_records : List ℕ
fade_records = 0x80000000 ∷ 0xB0001FFF ∷ 0x00000000 ∷ 0xC0000000 ∷ 0xC0000000 ∷ []

-- with no lemmas
abbrev pub bare_records : List ℕ
bare_records = 0x80000000 ∷ 0xB0001FFF ∷ 0x00000000 ∷ 0xC0000000 ∷ 0xC0000000 ∷ 0xC0000000 ∷ 0xC0000000 ∷ []

-- without the lemmas that P0 fails at the start and by action 0
abbrev pub cut_records : List ℕ
cut_records =
    0x80008000 ∷ 0xB0001FFF ∷ 0x00000000 ∷ 0xC0000001 ∷ 0xC0000002 ∷ 0xC0000003 ∷ 0xC0000000
    ∷ 0x80000002 ∷ 0xB0000000 ∷ 0x00000001 ∷ 0xC0000001 ∷ 0xCFFFFFFF ∷ 0xC0000004 ∷ 0xC0000000
    ∷ 0x80008001 ∷ 0xB0000001 ∷ 0x00000001 ∷ 0xCFFFFFFF ∷ 0xC0000002 ∷ 0xC0000003 ∷ 0xC0000002
    ∷ 0x8000C000 ∷ 0xB0000002 ∷ 0x00000001 ∷ 0xC0000004 ∷ 0xC0000002 ∷ 0xC0000003 ∷ 0xC0000003
    ∷ 0x80004002 ∷ 0xB0000012 ∷ 0x00000002 ∷ 0xC0000004 ∷ 0xCFFFFFFF ∷ 0xC0000004 ∷ 0xC0000003 ∷ []

abbrev pub house_records : List ℕ
house_records =
    0x8000C000 ∷ 0xB0001FFF ∷ 0x00000000 ∷ 0xC0000001 ∷ 0xC0000002 ∷ 0xC0000000 ∷ 0xC0000000
    ∷ 0x80004002 ∷ 0xB0000000 ∷ 0x00000001 ∷ 0xC0000001 ∷ 0xCFFFFFFF ∷ 0xC0000001 ∷ 0xC0000000
    ∷ 0x80008001 ∷ 0xB0000001 ∷ 0x00000001 ∷ 0xCFFFFFFF ∷ 0xC0000002 ∷ 0xC0000000 ∷ 0xC0000002 ∷ []

abbrev pub left : Judged → List ℕ → List ℕ → List ℕ → List ℕ → Judgement
left r records steps gl pl =
    record {
      answer = Ok r;
      graph = records ++ (replicate (graph_words - length records) 0 ++ drop graph_words gl);
      path = steps ++ (replicate (path_words - length steps) 0 ++ drop path_words pl);
    }

abbrev pub Judges : List ℕ → List ℕ → Judged → List ℕ → List ℕ → Type 0
Judges ws lemmas r records steps = (gl pl : List ℕ) → graph_words ≤ length gl → path_words ≤ length pl → judge ws lemmas gl pl ≡ left r records steps gl pl

-- long enough lists pass the two first tests
pub judged : (ws lemmas : List ℕ) (r : Judged) (records steps : List ℕ) → ((gl pl : List ℕ) → judge_survey (survey_program (read ws) lemmas gl) pl ≡ left r records steps gl pl)
    → Judges ws lemmas r records steps
judged ws lemmas r records steps h gl pl long roomy = rw (le-ltb (length gl) graph_words long, le-ltb (length pl) path_words roomy) (h gl pl)

abbrev pub Counts : List ℕ → ℕ → ℕ → ℕ → ℕ → ℕ → Type 0
Counts ws vars starts preds acts bad = check ws ≡ Ok (record { variables = vars; start_rows = starts; predicates = preds; actions = acts; forbidden = bad })

abbrev pub Refuses : List ℕ → ℕ → ℕ → Type 0
Refuses ws n at = (why : Refusal) × (check ws ≡ Err why) × (number why ≡ n) × (value why ≡ at)

pub record Table : Type 0 where
  -- (a) Fade safe
  pub a : Judges fade fade_lemmas (Safe 1 2) fade_records []
  -- (b) Fade without its first lemma, runs off at node 0, action 0, low
  pub b : Judges fade fade_others (MayRunOff 0 0 0 false 1 2) fade_records []
  -- (c) a lemma with all multipliers 0 is not accepted: any, and Fade's first with its multipliers so
  pub c : (ws lemmas : List ℕ) (k : ℕ) (p : Program) (ls : List Lemma) {us vs : List ℕ} {i j : ℕ} → read ws ≡ got p us i → read_lemmas p lemmas ≡ got ls vs j
      → k < length ls → Zeros (get_or ls k no_lemma).multipliers → ask ws lemmas k ≡ Ok NotAccepted
  pub c-fade : ask fade (fade_first_zero ++ fade_others) 0 ≡ Ok NotAccepted
  -- (d) House with no lemmas, forbids at node 0, empty path
  pub d : Judges house [] (MayForbid 0 0 1 4) bare_records []
  -- (e) House without lemmas for action 0 failing P0: by request 1 the three nodes and ten edges of House with full lemmas, and safe
  pub e : Judges house (house_start ++ (house_before ++ house_behind)) (Safe 3 10) house_records []
  -- a path that is not empty: without the lemma that P0 fails at the start too, node 1 is 80000002, path 0
  pub e-path : Judges house (house_before ++ house_behind) (MayForbid 1 0 5 17) cut_records (0xD0000000 ∷ [])
  -- (f) empty program, refusal 2 at 0
  pub f : Refuses [] 2 0
  -- (g) low end equal to high is allowed, one above refused 4
  pub g : Counts (0x10014005 ∷ 0x40000000 ∷ 0x50000000 ∷ 0xF0000000 ∷ []) 1 0 0 0 0
  pub g-above : Refuses (0x10018005 ∷ 0x40000000 ∷ 0x50000000 ∷ 0xF0000000 ∷ []) 4 0
  -- (h) coefficient 1,000 allowed, 1,001 refused
  pub h : Counts (0x100003E8 ∷ 0x40000001 ∷ 0x20000000 ∷ 0x300003E8 ∷ 0x50000000 ∷ 0xF0000000 ∷ []) 1 1 0 0 0
  pub h-above : Refuses (0x100003E8 ∷ 0x40000001 ∷ 0x20000000 ∷ 0x300003E9 ∷ 0x50000000 ∷ 0xF0000000 ∷ []) 4 3
  -- House with full lemmas: the nodes are 8000C000, 80004002, 80008001, with 10 edges, safe
  pub full : Judges house house_lemmas (Safe 3 10) house_records []

pub worked : Table
unfolding
    program ranges rows end coefs row assignment sets action due one times many sets_variable lemma list assigned plus_times combine
    dot corner first_off zero_on conjuncts explored visited turns links_in literals_in among all_among applies set_of contradicted forbids runs_off rangeEnds
    findings_from edge_row records_of back
worked =
    record {
      a = judged fade fade_lemmas (Safe 1 2) fade_records [] (λ gl pl. refl);
      b = judged fade fade_others (MayRunOff 0 0 0 false 1 2) fade_records [] (λ gl pl. refl);
      c = zeros-not-accepted;
      c-fade = refl;
      d = judged house [] (MayForbid 0 0 1 4) bare_records [] (λ gl pl. refl);
      e = judged house (house_start ++ (house_before ++ house_behind)) (Safe 3 10) house_records [] (λ gl pl. refl);
      e-path = judged house (house_before ++ house_behind) (MayForbid 1 0 5 17) cut_records (0xD0000000 ∷ []) (λ gl pl. refl);
      f = (Word 0, refl, refl, refl);
      g = refl;
      g-above = (Value 0, refl, refl, refl);
      h = refl;
      h-above = (Value 3, refl, refl, refl);
      full = judged house house_lemmas (Safe 3 10) house_records [] (λ gl pl. refl);
    }
