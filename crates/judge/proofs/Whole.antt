-- Judge's own promises, from a survey and the verdict on its graph.
use mathlib.Core.Path.{◌≡◌, refl, sym, ◌∙◌}
use mathlib.Core.List.{List}
use Prim.Native.Nat.{ℕ, ◌≤◌}
use lib.ListN.{length}
use borrow.Author.Tests.{le-ltb}
use Rattle.std.specs.Prelude.{Result, Ok}
use Rattle.words.specs.declared.Refusal.{Refusal}
use Rattle.programs.specs.Calls.{read}
use Rattle.lemmas.specs.Sources.{the_program}
use Rattle.gather.specs.declared.Entry.{Entry}
use Rattle.records.specs.Records.{graph_words}
use Rattle.tables.specs.Tabled.{the_lemmas}
use Rattle.survey.specs.Surveys.{draws}
use Rattle.survey.specs.Ready.{Complete}
use Rattle.survey.specs.declared.Surveyed.{Surveyed}
use Rattle.verdict.specs.Verdicts.{findings, path_words, path_list}
use Rattle.verdict.specs.declared.Finding.{Finding}
use Rattle.judge.specs.Calls.{verdict, path_to, judge, judge_survey}
use Rattle.judge.specs.Worth.{Demand2Of, SafeOf}
use Rattle.judge.specs.Shortest.{ShortestOf}
use Rattle.judge.specs.declared.Judged.{Judged}
use Rattle.judge.specs.declared.Judged.TheVariants.{Safe}
use Rattle.judge.proofs.Promised.{judge-demand2, judge-safe}
use Rattle.judge.proofs.Shortest.{judge-shortest}

module _ (ws lemmas gl pl : List ℕ) where
  -- of an answer and two lists at exit
  pub record Promises (r : Result Judged Refusal) (gl' pl' : List ℕ) : Type 0 where
    pub answer : r ≡ (judge ws lemmas gl pl).answer
    pub graph : gl' ≡ (judge ws lemmas gl pl).graph
    pub path : pl' ≡ (judge ws lemmas gl pl).path
    pub demand2 : Demand2Of ws lemmas r gl gl' pl pl'
    pub demand3 : (nodes edges : ℕ) → r ≡ Ok (Safe nodes edges) → SafeOf (read ws)
    pub shortest : ShortestOf ws lemmas r gl' pl'

  promised : {r : Result Judged Refusal} {gl' pl' : List ℕ} → r ≡ (judge ws lemmas gl pl).answer → gl' ≡ (judge ws lemmas gl pl).graph → pl' ≡ (judge ws lemmas gl pl).path
      → Promises r gl' pl'
  promised a b d =
      record {
        answer = a;
        graph = b;
        path = d;
        demand2 = rw (a, b, d) (judge-demand2 ws lemmas gl pl);
        demand3 = λ n e h. judge-safe ws lemmas gl pl (sym a ∙ h);
        shortest = rw (a, b, d) (judge-shortest ws lemmas gl pl);
      }

  module _ (long : graph_words ≤ length gl) (roomy : path_words ≤ length pl) {gl' : List ℕ} {es : List Entry} {s : Surveyed} (k : Complete ws lemmas gl gl' es s) where
    abbrev fs : List Finding
    fs = findings (the_program ws) (the_lemmas (the_program ws) lemmas) k.made

    judged-by : judge ws lemmas gl pl ≡ judge_survey (draws (the_program ws) (the_lemmas (the_program ws) lemmas) k.made gl') pl
    judged-by = rw (le-ltb (length gl) graph_words long, le-ltb (length pl) path_words roomy, k.drawn) refl

    pub judged : {v : Judged} {pl' : List ℕ} → (v ≡ verdict k.made fs) × (pl' ≡ path_list (path_to k.made fs) pl) → Promises (Ok v) gl' pl'
    judged is = promised (rw (judged-by, is.0) refl) (rw judged-by refl) (rw judged-by is.1)
