-- A show read, weighed and explored: what a survey comes to, whichever way it ends.
use mathlib.Core.Path.{◌≡◌, refl, sym, ap, ◌∙◌}
use mathlib.Core.List.{List, map}
use Prim.Native.Nat.{ℕ, ◌≤◌, ◌<◌}
use native.Mathlib.Omega.{arith}
use lib.ListN.{length, get_or, take, replicate}
use lib.Seq.{length-sets}
use borrow.Author.Tests.{lt-ltb, le-ltb}
use Rattle.std.proofs.lemmas.List.{get_or-take, length-take-le}
use Rattle.std.specs.Prelude.{Some, None, Ok}
use Rattle.words.specs.declared.Refusal.TheVariants.{Sum, Nodes}
use Rattle.grammar.specs.Reading.{got}
use Rattle.grammar.specs.Programs.{Program}
use Rattle.grammar.specs.WellFormed.{WellFormed, Few}
use Rattle.programs.specs.Calls.{read}
use Rattle.programs.specs.declared.Image.{Image}
use Rattle.lemmas.specs.Lemmas.{Lemma}
use Rattle.lemmas.specs.LemmaGrammar.{read_lemmas, LemmaOk}
use Rattle.lemmas.specs.Sources.{the_program, ListedAs}
use Rattle.frame.specs.Masks.{mask_of, masks_of}
use Rattle.gather.specs.declared.Entry.{Entry}
use Rattle.search.specs.Search.{Graph, Result, Done, Over, count, links}
use Rattle.records.specs.Records.{graph_list}
use Rattle.records.specs.Steps.{explored_of}
use Rattle.graph.specs.Graph.{graph_of}
use Rattle.abstraction.specs.Abstraction.{graph}
use Rattle.abstraction.proofs.Graphs.{same_graph}
use Rattle.ask.specs.Calls.{no_lemma}
use Rattle.ask.proofs.Asking.{Program-read, Lemmas-read, lemmas-read, good, is-lemma, lemma-is}
use Rattle.tables.specs.Tabled.{lemmas_or, the_lemmas, Begun, Filled}
use Rattle.tables.specs.Off.{first_off}
use Rattle.survey.specs.Surveys.{stops, draws, survey_graph, survey_program}
use Rattle.survey.specs.Ready.{Complete}

record Found (r : Result) (nodes edges : ℕ) : Type 0 where
  pub made : Graph
  pub done : r ≡ Done made
  pub nodes_are : nodes ≡ count made
  pub edges_are : edges ≡ links made

found : (r : Result) {nodes edges : ℕ} → Some (nodes, edges) ≡ explored_of r → Found r nodes edges
found (Done g) {nodes} {edges} h =
    let e : ◌≡◌ {A = ℕ × ℕ} (nodes, edges) (count g, links g) = cc h in
    record { made = g; done = refl; nodes_are = ap (λ (x : ℕ × ℕ). x.0) e; edges_are = ap (λ (x : ℕ × ℕ). x.1) e }
found Over h = cc h

over : (r : Result) → None ≡ explored_of r → r ≡ Over
over (Done g) e = cc e
over Over e = refl

module _ (ws lemmas : List ℕ) where
  abbrev p : Program
  p = the_program ws

  abbrev ls : List Lemma
  ls = the_lemmas p lemmas

  module _ {image : Image} (k : Program-read ws image) where
    ok : WellFormed p
    ok = k.held.accepted.good

    actions_are : image.actions ≡ length p.actions
    actions_are = ap (λ (y : Image). y.actions) k.held.same

    pub actions-few : image.actions ≤ 16
    actions-few = omega (arith, actions_are, ok.actions.few)

    module _ (ns begins : List ℕ) (n : ℕ) (e : ListedAs ns (read_lemmas p lemmas) (Ok n) begins) where
      listed : (i : ℕ) → Lemmas-read ws p k.is ok lemmas ns begins i n
      listed i = lemmas-read ws p k.is ok lemmas ns begins i e

      same-list : ls ≡ (listed 0).list
      same-list = ap lemmas_or (listed 0).is

      counted_is : n ≡ length ls
      counted_is = (listed 0).counted ∙ ap length (sym same-list)

      good-are : Few 512 (LemmaOk p) ls
      good-are = rw same-list (good ws p k.is ok lemmas ns begins 0 (listed 0))

      pub listed-few : n ≤ 512
      listed-few = omega (arith, counted_is, good-are.few)

      pub begun : 512 ≤ length ns → n ≤ length begins → Begun p lemmas (take n begins) ls
      begun wide within = record {
        counted = length-take-le n begins within ∙ counted_is;
        good = good-are;
        here = λ i m.
            let h : i < n = omega (arith, length-take-le n begins within, m) in
            let same : get_or (take n begins) i 0 ≡ get_or begins i 0 = get_or-take n begins i 0 h in
            rw same (
              is-lemma ws p k.is ok lemmas ns begins i (listed i) wide h,
              lemma-is ws p k.is ok lemmas ns begins i (listed i) wide h ∙ ap (λ (ls : List Lemma). get_or ls i no_lemma) (sym (ap lemmas_or (listed i).is)),
            );
      }

      list-is : read_lemmas p lemmas ≡ got ls (listed 0).rest (listed 0).index
      list-is = (listed 0).is ∙ ap (λ (m : List Lemma). got m (listed 0).rest (listed 0).index) (sym same-list)

      pub sum-off : (gl : List ℕ) → first_off p ls < length ls → survey_program (read ws) lemmas gl ≡ stops (Sum (first_off p ls)) gl
      sum-off gl off = rw (k.is, list-is, lt-ltb (first_off p ls) (length ls) off) refl

      module _ (gl : List ℕ) {m : ℕ} {es : List Entry} (filled : Filled p ls es m) {masks : List ℕ} (kept : masks ≡ masks_of p) where
        weighed : survey_program (read ws) lemmas gl ≡ survey_graph p ls (graph p ls) gl
        weighed = rw (k.is, list-is, le-ltb (first_off p ls) (length ls) (omega (arith, filled.none-off))) refl

        graph_is : graph_of (take m es) masks image.actions ≡ graph p ls
        graph_is = rw (filled.same, kept, actions_are) (same_graph p ok ls good-are.each)

        module _ {l' : List ℕ} (el : l' ≡ graph_list image.actions (graph_of (take m es) masks image.actions) gl) where
          left_is : (r : Result) → graph p ls ≡ r → l' ≡ graph_list (length p.actions) r gl
          left_is r q = el ∙ (λ i. graph_list (actions_are i) (graph_is i) gl) ∙ ap (λ (m : Result). graph_list (length p.actions) m gl) q

          pub too_many : None ≡ explored_of (graph_of (take m es) masks image.actions) → survey_program (read ws) lemmas gl ≡ stops Nodes l'
          too_many e =
              let o : graph p ls ≡ Over = over (graph p ls) (e ∙ ap explored_of graph_is) in
              weighed ∙ ap (λ (r : Result). survey_graph p ls r gl) o ∙ ap (stops Nodes) (sym (left_is Over o))

          pub complete : {nodes edges : ℕ} → Some (nodes, edges) ≡ explored_of (graph_of (take m es) masks image.actions)
              → Complete ws lemmas gl l' es (record { image = image; count = m; kept = masks; nodes = nodes; edges = edges })
          complete e =
              let f = found (graph p ls) (e ∙ ap explored_of graph_is) in
              record {
                few = filled.few;
                made = f.made;
                ready = record {
                  good = ok;
                  same = k.held.same;
                  masks = kept;
                  each = good-are.each;
                  is = f.done;
                  nodes_are = f.nodes_are;
                  edges_are = f.edges_are;
                  tables = filled.same;
                  before = gl;
                  listed = left_is (Done f.made) f.done;
                };
                drawn = weighed ∙ ap (λ (r : Result). survey_graph p ls r gl) f.done ∙ ap (draws p ls f.made) (sym (left_is (Done f.made) f.done));
              }

-- a program's masks are 16 numbers
pub masks-long : (p : Program) {kept : List ℕ} → kept ≡ masks_of p → 16 ≤ length kept
masks-long p e = rw (e, length-sets (replicate 16 0) 0 (map (mask_of p) p.actions)) (omega arith)
