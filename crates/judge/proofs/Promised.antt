-- What Judge's answers and lists are worth, by the definitions: demand 2 with the path, and demand 3.
use mathlib.Core.Path.{◌≡◌, refl, ap}
use mathlib.Core.Bool.{Bool, true, false, cond}
use mathlib.Core.List.{List, [], ◌∷◌}
use Prim.Native.Nat.{ℕ, ◌<◌, ◌≤◌}
use native.Mathlib.Omega.{arith}
use lib.Dec.{ltb}
use Rattle.std.specs.Prelude.{Ok, Err}
use Rattle.std.specs.Prelude.{Result as Answer}
use lib.ListN.{length}
use Rattle.words.specs.Refusals.{number}
use Rattle.words.specs.declared.Refusal.{Refusal}
use Rattle.words.specs.declared.Refusal.TheVariants.{Short, Nodes, Sum}
use Rattle.grammar.specs.Reading.{Read, got, refused}
use Rattle.grammar.specs.Programs.{Program}
use Rattle.grammar.specs.WellFormed.{WellFormed, Each}
use Rattle.grammar.proofs.ProgramLaws.{accepted}
use Rattle.grammar.proofs.Refusing.{program_refusal}
use Rattle.programs.specs.Calls.{read}
use Rattle.lemmas.specs.Lemmas.{Lemma}
use Rattle.lemmas.specs.LemmaGrammar.{read_lemmas, LemmaOk}
use Rattle.lemmas.proofs.LemmaLaws.{lemmas-accepted}
use Rattle.lemmas.proofs.Refusing.{lemmas_refusal}
use Rattle.search.specs.Search.{Graph, Result, Done, Over, count, links}
use Rattle.records.specs.Records.{most_nodes, graph_words}
use Rattle.abstraction.specs.Abstraction.{graph}
use Rattle.abstraction.specs.Faithful.{TooMany, Demand2}
use Rattle.abstraction.proofs.Demand2.{demand2}
use Rattle.abstraction.proofs.Unique.{distance-path}
use Rattle.abstraction.proofs.Shortest.{path-walk}
use Rattle.tables.specs.Off.{first_off}
use Rattle.verdict.specs.Verdicts.{findings, node_of, path_words, path_list, steps_to}
use Rattle.verdict.specs.declared.Finding.{Finding}
use Rattle.verdict.specs.declared.Finding.TheVariants.{Forbid, RunOff}
use Rattle.safety.proofs.Safety.{safe}
use Rattle.survey.specs.Surveys.{Survey, stops, draws, survey_graph, survey_lemmas, survey_program}
use Rattle.judge.specs.Calls.{Judgement, keep, verdict, path_to, judge_survey, judge}
use Rattle.judge.specs.Worth.{OfRead, Drawn, Walked, Demand2Of, SafeOf}
use Rattle.judge.specs.declared.Judged.{Judged}
use Rattle.judge.specs.declared.Judged.TheVariants.{Safe as IsSafe}
use Rattle.judge.proofs.Walks.{findings-within, graph-few}

-- ---- what a survey is worth
-- the graph that is drawn is that of the program and the lemmas which the words are
pub record Known (ws lemmas gl : List ℕ) (p : Program) (ls : List Lemma) (g : Graph) (gl' : List ℕ) : Type 0 where
  pub rest : List ℕ
  pub more : List ℕ
  pub index : ℕ
  pub at : ℕ
  pub program : read ws ≡ got p rest index
  pub list : read_lemmas p lemmas ≡ got ls more at
  pub good : WellFormed p
  pub lemmas_good : Each (LemmaOk p) ls
  pub is : graph p ls ≡ Done g
  pub drawn : Drawn p ls g (count g) (links g) gl gl'

-- a claim about that program and those lemmas is one about the words
pub of-read : {ws lemmas gl : List ℕ} {p : Program} {ls : List Lemma} {g : Graph} {gl' : List ℕ} → Known ws lemmas gl p ls g gl'
    → (P : Program → List Lemma → Type 0) → P p ls → OfRead P (read ws) lemmas
of-read k P h = rw k.program (rw k.list h)

-- without findings the program is safe
pub safe_if : {ws lemmas gl : List ℕ} {p : Program} {ls : List Lemma} {g : Graph} {gl' : List ℕ} → Known ws lemmas gl p ls g gl' → findings p ls g ≡ [] → SafeOf (read ws)
safe_if {p = p} {ls = ls} {g = g} k none = rw k.program (safe p k.good ls k.lemmas_good g k.drawn.faithful none)

-- a survey stops by one of the base's refusals; 7 says that too many nodes are reachable, the others say nothing here
abbrev pub Worth : List ℕ → List ℕ → List ℕ → Survey → Type 0
Worth ws lemmas gl (stops r gl') = (number r ≤ 11) × (r ≡ Nodes → OfRead TooMany (read ws) lemmas)
Worth ws lemmas gl (draws p ls g gl') = Known ws lemmas gl p ls g gl'

-- a refusal other than 7
pub other : {P : Type 0} (r : Refusal) → (number r ≡ 7 → ⊥) → r ≡ Nodes → P
other r n e = absurd (n (ap number e))

module _ (ws lemmas gl : List ℕ) where
  module _ (p : Program) (us : List ℕ) (i : ℕ) (q : read ws ≡ got p us i) where
    ok : WellFormed p
    ok = (accepted ws p us i q).good

    module _ (ls : List Lemma) (vs : List ℕ) (j : ℕ) (q' : read_lemmas p lemmas ≡ got ls vs j) where
      each : Each (LemmaOk p) ls
      each = (lemmas-accepted p ok lemmas ls vs j q').good.each

      graph-worth : (r : Result) → graph p ls ≡ r → Worth ws lemmas gl (survey_graph p ls r gl)
      graph-worth (Done g) e =
          let d : Demand2 p ls (Done g) = rw e at (demand2 p ok ls each) in
          record {
            rest = us;
            more = vs;
            index = i;
            at = j;
            program = q;
            list = q';
            good = ok;
            lemmas_good = each;
            is = e;
            drawn = record { faithful = d.0; enough = d.1; few = graph-few p ls g e; nodes_are = refl; edges_are = refl; records = refl };
          }
      graph-worth Over e = (omega arith, λ same. rw q (rw q' (rw e at (demand2 p ok ls each))))

    lemmas-worth : (m : Read (List Lemma)) → read_lemmas p lemmas ≡ m → Worth ws lemmas gl (survey_lemmas p m gl)
    lemmas-worth (refused r) e = (omega (arith, lemmas_refusal p lemmas e), other r (λ z. omega (arith, lemmas_refusal p lemmas e)))
    lemmas-worth (got ls vs j) e = go (ltb (first_off p ls) (length ls))
      where
        go : (b : Bool) → Worth ws lemmas gl (cond b (stops (Sum (first_off p ls)) gl) (survey_graph p ls (graph p ls) gl))
        go true = (omega arith, other (Sum (first_off p ls)) (λ z. omega arith))
        go false = graph-worth ls vs j e (graph p ls) refl

  program-worth : (m : Read Program) → read ws ≡ m → Worth ws lemmas gl (survey_program m lemmas gl)
  program-worth (refused r) e = (omega (arith, program_refusal ws 0 e), other r (λ z. omega (arith, program_refusal ws 0 e)))
  program-worth (got p us i) e = lemmas-worth p us i e (read_lemmas p lemmas) refl

  pub survey-worth : Worth ws lemmas gl (survey_program (read ws) lemmas gl)
  survey-worth = program-worth (read ws) refl

-- ---- what holds of the refusals of short lists and of a survey judged holds of Judge
module _ (ws lemmas gl pl : List ℕ) (P : Judgement → Type 0) where
  by-test : (b : Bool) (x y : Judgement) → P x → P y → P (cond b x y)
  by-test true x y h k = h
  by-test false x y h k = k

  pub of-judge : ((n : ℕ) → P (keep (Err (Short n)) gl pl)) → P (judge_survey (survey_program (read ws) lemmas gl) pl) → P (judge ws lemmas gl pl)
  of-judge short rest =
      let inner = judge_survey (survey_program (read ws) lemmas gl) pl in
      by-test (ltb (length gl) graph_words) (keep (Err (Short 0)) gl pl) (cond (ltb (length pl) path_words) (keep (Err (Short 1)) gl pl) inner) (short 0)
      (by-test (ltb (length pl) path_words) (keep (Err (Short 1)) gl pl) inner (short 1) rest)

-- ---- demand 2
-- of a judgement, with the two lists at entry
abbrev Worthy : List ℕ → List ℕ → List ℕ → List ℕ → Judgement → Type 0
Worthy ws lemmas gl pl j = Demand2Of ws lemmas j.answer gl j.graph pl j.path

module _ (ws lemmas gl pl : List ℕ) where
  module _ (p : Program) (ls : List Lemma) (g : Graph) (gl' : List ℕ) (k : Known ws lemmas gl p ls g gl') where
    walked : (n : ℕ) → n < count g → Walked p g n pl (path_list (steps_to g n) pl)
    walked n h = record {
      steps = steps_to g n;
      walk = path-walk p ls g k.drawn.faithful most_nodes n (omega (arith, k.drawn.few)) h;
      long = distance-path p ls g k.drawn.faithful most_nodes n (omega (arith, k.drawn.few)) h;
      words = refl;
    }

    verdict-worthy : (fs : List Finding) → Each (λ f. node_of f < count g) fs → Demand2Of ws lemmas (Ok (verdict g fs)) gl gl' pl (path_list (path_to g fs) pl)
    verdict-worthy [] h = of-read k _ (g, k.drawn)
    verdict-worthy (Forbid n b ∷ fs) h = of-read k _ (g, k.drawn, walked n h.0)
    verdict-worthy (RunOff n a v high ∷ fs) h = of-read k _ (g, k.drawn, walked n h.0)

  survey-worthy : (s : Survey) → Worth ws lemmas gl s → Worthy ws lemmas gl pl (judge_survey s pl)
  survey-worthy (stops r gl') w = w.1
  survey-worthy (draws p ls g gl') w = verdict-worthy p ls g gl' w (findings p ls g) (findings-within p ls g)

  pub surveyed-demand2 : (s : Survey) → survey_program (read ws) lemmas gl ≡ s → Worthy ws lemmas gl pl (judge_survey s pl)
  surveyed-demand2 s e = survey-worthy s (rw e at (survey-worth ws lemmas gl))

  pub judge-demand2 : Worthy ws lemmas gl pl (judge ws lemmas gl pl)
  judge-demand2 = of-judge ws lemmas gl pl (Worthy ws lemmas gl pl) (λ n. other (Short n) (λ z. omega arith)) (surveyed-demand2 (survey_program (read ws) lemmas gl) refl)

-- ---- demand 3
refused-safe : {P : Type 0} {r : Refusal} {n e : ℕ} → ◌≡◌ {A = Answer Judged Refusal} (Err r) (Ok (IsSafe n e)) → P
refused-safe e = absurd cc

no_finding : (g : Graph) (fs : List Finding) {n e : ℕ} → ◌≡◌ {A = Answer Judged Refusal} (Ok (verdict g fs)) (Ok (IsSafe n e)) → fs ≡ []
no_finding g [] h = refl
no_finding g (Forbid k b ∷ fs) h = cc
no_finding g (RunOff k j v high ∷ fs) h = cc

module _ (ws lemmas gl pl : List ℕ) {n e : ℕ} where
  survey-safe : (s : Survey) → Worth ws lemmas gl s → (judge_survey s pl).answer ≡ Ok (IsSafe n e) → SafeOf (read ws)
  survey-safe (stops r gl') w h = refused-safe h
  survey-safe (draws p ls g gl') w h = safe_if w (no_finding g (findings p ls g) h)

  pub judge-safe : (judge ws lemmas gl pl).answer ≡ Ok (IsSafe n e) → SafeOf (read ws)
  judge-safe =
      of-judge ws lemmas gl pl (λ j. j.answer ≡ Ok (IsSafe n e) → SafeOf (read ws)) (λ k. refused-safe) (survey-safe (survey_program (read ws) lemmas gl) (survey-worth ws lemmas gl))
