-- Findings' own promises, from a survey and the findings of a whole graph.
use mathlib.Core.Path.{◌≡◌, refl, sym, ◌∙◌}
use mathlib.Core.List.{List}
use Prim.Native.Nat.{ℕ, ◌≤◌}
use lib.ListN.{length}
use borrow.Author.Tests.{le-ltb}
use Rattle.std.specs.Prelude.{Result, Ok}
use Rattle.words.specs.declared.Refusal.{Refusal}
use Rattle.programs.specs.Calls.{read}
use Rattle.lemmas.specs.Sources.{the_program}
use Rattle.gather.specs.declared.Entry.{Entry}
use Rattle.records.specs.Records.{graph_words}
use Rattle.tables.specs.Tabled.{the_lemmas}
use Rattle.survey.specs.Ready.{Complete}
use Rattle.survey.specs.declared.Surveyed.{Surveyed}
use Rattle.verdict.specs.Verdicts.{findings, path_words}
use Rattle.verdict.specs.declared.Finding.{Finding}
use Rattle.judge.specs.Calls.{judge}
use Rattle.judge.specs.Worth.{SafeOf}
use Rattle.findings.specs.Calls.{list_all, listing}
use Rattle.findings.specs.Worth.{SheetOf, Agrees}
use Rattle.findings.proofs.Listing.{Lists, graph-kept}
use Rattle.findings.proofs.Promised.{listing-sheet, listing-safe, listing-judge}

module _ (ws lemmas gl fl : List ℕ) where
  -- of an answer and two lists at exit
  pub record Promises (r : Result ℕ Refusal) (gl' fl' : List ℕ) : Type 0 where
    pub answer : r ≡ (listing ws lemmas gl fl).answer
    pub graph : gl' ≡ (listing ws lemmas gl fl).graph
    pub list : fl' ≡ (listing ws lemmas gl fl).list
    pub sheet : SheetOf ws lemmas r gl gl' fl fl'
    pub demand3 : r ≡ Ok 0 → SafeOf (read ws)
    pub judge : (pl : List ℕ) → path_words ≤ length pl → Agrees (judge ws lemmas gl pl).answer r fl' × (gl' ≡ (judge ws lemmas gl pl).graph)

  module _ (long : graph_words ≤ length gl) {gl' : List ℕ} {es : List Entry} {s : Surveyed} (k : Complete ws lemmas gl gl' es s) where
    abbrev fs : List Finding
    fs = findings (the_program ws) (the_lemmas (the_program ws) lemmas) k.made

    listed_by : listing ws lemmas gl fl ≡ list_all fs gl' fl
    listed_by = rw (le-ltb (length gl) graph_words long, k.drawn) refl

    pub listed : {r : Result ℕ Refusal} {fl' : List ℕ} → Lists fs gl' fl r fl' → Promises r gl' fl'
    listed {r} {fl'} v =
        let a : r ≡ (listing ws lemmas gl fl).answer = rw listed_by v.0 in
        let b : gl' ≡ (listing ws lemmas gl fl).graph = rw listed_by (sym (graph-kept fs gl' fl)) in
        let d : fl' ≡ (listing ws lemmas gl fl).list = rw listed_by v.1 in
        record {
          answer = a;
          graph = b;
          list = d;
          sheet = rw (a, b, d) (listing-sheet ws lemmas gl fl);
          demand3 = λ e. listing-safe ws lemmas gl fl (sym a ∙ e);
          judge = λ pl l. rw (a, b, d) (listing-judge ws lemmas gl fl pl l);
        }
