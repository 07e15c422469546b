-- A view over the list of a whole graph, asked for a node and an action of it:
--     graph-viewed               the answer is the graph's edge
--     search_viewed              the same of the graph that a search ends with
use mathlib.Core.Path.{◌≡◌, refl, sym, ap, ◌∙◌}
use mathlib.Core.Bool.{false}
use mathlib.Core.List.{List, ◌++◌}
use Prim.Native.Nat.{ℕ, ◌-◌, ◌<◌, ◌≤◌}
use native.Mathlib.Omega.{arith}
use borrow.Author.Tests.{ne_eqb}
use lib.Dec.{eqb}
use lib.ListN.{length, drop, replicate, length-append}
use Rattle.words.specs.Words.{word, kind_of, payload, EDGE, no_node}
use Rattle.search.specs.Search.{Answer, To, Graph, Done, count, edge, explored}
use Rattle.search.specs.Search.{None as Nowhere}
use Rattle.search.proofs.Sound.{Leads}
use Rattle.search.proofs.Theorem.{to_inj, not_none, whole}
use Rattle.records.specs.Records.{edge_word, most_nodes, graph_words, record_place, edge_place, records_of, graph_list}
use Rattle.records.proofs.Listed.{records-length, edge_at}
use Rattle.view.specs.Views.{edge_of, viewed, edge_viewed}
use Rattle.view.proofs.Reading.{word-there}

-- the word of an edge is read as the edge
edge-read : (e : Answer) (p : ℕ) → ((m : ℕ) → e ≡ To m → m < no_node) → edge_of (edge_word e) p ≡ edge_viewed e
edge-read (To m) p low =
    let small : m < no_node = low m refl in
    let kind : kind_of (word EDGE m) ≡ EDGE = omega arith in
    let node : payload (word EDGE m) ≡ m = omega arith in
    let some : eqb m no_node ≡ false = ne_eqb m no_node (λ e. omega (arith, e)) in
    rw (kind, node, some)
edge-read Nowhere p low = refl

module _ (a : ℕ) (g : Graph) (l₀ : List ℕ) (k j : ℕ) (few : count g ≤ most_nodes) (ha : a ≤ 16) (hk : k < count g) (hj : j < a) (low : (m : ℕ) → edge a g k j ≡ To m → m < no_node) where
  graph-viewed : viewed (graph_list a (Done g) l₀) (count g) a k j ≡ edge_viewed (edge a g k j)
  graph-viewed =
      let rest = replicate (graph_words - record_place a (count g)) 0 ++ drop graph_words l₀ in
      let long : record_place a (count g) ≤ length (graph_list a (Done g) l₀) = omega (arith, length-append (records_of a g (count g)) rest, records-length a g (count g)) in
      word-there (graph_list a (Done g) l₀) (count g) a k j long hk hj few ha
      ∙ ap (λ (w : ℕ). edge_of w (edge_place a k j)) (edge_at a g (count g) rest k j hk hj) ∙ edge-read (edge a g k j) (edge_place a k j) low

-- an edge that leads to a node names one below the limit
leads-low : (next : ℕ → ℕ → Answer) (g : Graph) (k j : ℕ) (e : Answer) → count g ≤ most_nodes → Leads next g.words k j e → (m : ℕ) → e ≡ To m → m < no_node
leads-low next g k j (To n) few h m q = let same : n ≡ m = to_inj q in omega (arith, h.0)
leads-low next g k j Nowhere few h m q = absurd (not_none (sym q))

pub search_viewed : (start : Answer) (next : ℕ → ℕ → Answer) (a : ℕ) (g : Graph) (l₀ : List ℕ) (k j : ℕ) → explored next a most_nodes start ≡ Done g → a ≤ 16 → k < count g → j < a
    → viewed (graph_list a (explored next a most_nodes start) l₀) (count g) a k j ≡ edge_viewed (edge a g k j)
search_viewed start next a g l₀ k j is ha hk hj =
    let w = whole start next a most_nodes g is in
    rw is (graph-viewed a g l₀ k j w.within ha hk hj (leads-low next g k j (edge a g k j) w.within (w.leads k j hk hj)))
