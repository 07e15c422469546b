-- The count of edges is the number of EDGE words that name a successor, in the records of a graph whose other words are none.
use mathlib.Core.Path.{◌≡◌, refl, ap, ◌∙◌}
use mathlib.Core.Bool.{Bool, true, false, cond}
use mathlib.Core.List.{List, [], ◌∷◌, ◌++◌}
use Prim.Native.Nat.{ℕ, zero, suc, ◌+◌, ◌*◌, ◌<◌, ◌≤◌}
use native.Mathlib.Omega.{arith}
use native.Mathlib.Nat.{suc-mul, zero-mul}
use lib.ListN.{length, take, replicate}
use lib.Seq.{take-suc, take_all}
use Rattle.search.specs.Search.{None, Graph, count, links, links_in, node_word, origin, distance, edge}
use Rattle.search.proofs.Count.{row_below}
use Rattle.records.specs.Records.{origin_word, distance_word, edge_word, edge_row, node_record, records_of}
use Rattle.records.specs.Naming.{names, naming}
use Rattle.records.proofs.Stores.{leads, links-more}

naming_append : (xs ys : List ℕ) → naming (xs ++ ys) ≡ naming xs + naming ys
unfolding naming
naming_append [] ys = omega arith
naming_append (x ∷ xs) ys = go (names x) (naming_append xs ys)
  where
    go : (b : Bool) → naming (xs ++ ys) ≡ naming xs + naming ys → cond b (suc (naming (xs ++ ys))) (naming (xs ++ ys)) ≡ cond b (suc (naming xs)) (naming xs) + naming ys
    go true h = omega (arith, h)
    go false h = h

naming-zeros : (n : ℕ) → naming (replicate n 0) ≡ 0
unfolding naming
naming-zeros zero = refl
naming-zeros (suc n) = naming-zeros n

pub record Plain (a : ℕ) (g : Graph) : Type 0 where
  pub nodes : (k : ℕ) → k < count g → names (node_word g k) ≡ false
  pub origins : (k : ℕ) → k < count g → names (origin_word (origin g k)) ≡ false
  pub distances : (k : ℕ) → k < count g → names (distance_word (distance g k)) ≡ false
  pub edges : (k j : ℕ) → k < count g → j < a → naming (edge_word (edge a g k j) ∷ []) ≡ leads (edge a g k j)
  pub wide : length g.edges ≡ count g * a

module _ (a : ℕ) (g : Graph) (h : Plain a g) where
  -- how many of the first n edges lead to a node
  first : ℕ → ℕ
  first n = links_in (take n g.edges)

  row-naming : (k : ℕ) → k < count g → (j : ℕ) → j ≤ a → naming (edge_row a g k j) + first (k * a) ≡ first (k * a + j)
  unfolding edge_row naming first
  row-naming k b zero l = let e : k * a + 0 ≡ k * a = omega arith in rw e (omega arith)
  row-naming k b (suc j) l =
      let e : k * a + suc j ≡ suc (k * a + j) = omega arith in
      let one = take-suc g.edges (k * a + j) None (omega (arith, row_below a k j (count g) l b, h.wide)) in
      let more = links-more (take (k * a + j) g.edges) (edge a g k j) in
      let here = h.edges k j b l in
      let both = naming_append (edge_row a g k j) (edge_word (edge a g k j) ∷ []) in
      let ih = row-naming k b j (omega arith) in
      rw (e, one, more, both, here) (omega (arith, ih))

  records-naming : (n : ℕ) → n ≤ count g → naming (records_of a g n) ≡ first (n * a)
  unfolding records_of naming first links_in
  records-naming zero l = rw (zero-mul a) refl
  records-naming (suc n) l =
      let ih = records-naming n (omega arith) in
      let row = row-naming n l a (omega arith) in
      naming_append (records_of a g n) (node_record a g n) ∙ rw (h.nodes n l, h.origins n l, h.distances n l, suc-mul n a) (omega (arith, ih, row))

  -- whatever zeros come behind
  pub edges-named : (n : ℕ) → naming (records_of a g (count g) ++ replicate n 0) ≡ links g
  unfolding first
  edges-named n =
      let whole : take (count g * a) g.edges ≡ g.edges = take_all (count g * a) g.edges (omega (arith, h.wide)) in
      naming_append (records_of a g (count g)) (replicate n 0)
      ∙ omega (arith, naming-zeros n, records-naming (count g) (omega arith), ap links_in whole)
