-- All nodes' turns, over any successor function, and the clearing around them.
--     root_at                       the list with node 0 in it
--     Running                      between two nodes: first-node, taken-on, all-over, all_done
--     rest_cleared                 what is behind the records cleared
--     few-found, cleared-found, cleared-none   with that, after the search, and where there is no node
use mathlib.Core.Path.{◌≡◌, refl, ap, ◌∙◌}
use mathlib.Core.List.{List, [], ◌++◌, append-nil}
use Prim.Native.Nat.{ℕ, suc, ◌+◌, ◌-◌, ◌*◌, ◌<◌, ◌≤◌}
use native.Mathlib.Omega.{arith}
use native.Mathlib.Nat.{suc-mul, zero-mul, mul-le-mul_right}
use native.Mathlib.Numerals.{add-one}
use borrow.Author.Tests.{lt-ltb}
use lib.ListN.{replicate, length, take, drop, length-drop}
use lib.Seq.{take_all, take_at, drop-length, drop-drop, drop-append-add}
use borrow.Rule.Slice.PartMut.{mid_of, post_of, put_mid, Post-is}
use Rattle.std.specs.Prelude.{Option, Some, None}
use Rattle.search.specs.Search.{None as Nowhere}
use Rattle.search.specs.Search.{Answer, To, Root, Graph, Result, Done, Over, count, links_in, empty, turns, node, visited, explored}
use Rattle.search.proofs.Theorem as theorem
use Rattle.search.proofs.Steps.{explored-over, explored-done}
use Rattle.records.specs.Records.{most_nodes, header, graph_words, origin_word, distance_word, stride, record_place, records_of, graph_list}
use Rattle.records.specs.Steps.{explored_of, headed, column, Near, Kept, Mid, Fair, Turned, Filled}
use Rattle.records.proofs.Places.{most, headed-drop}
use Rattle.records.proofs.Stores.{near-stored, kept-stored}
use Rattle.records.proofs.Listed.{listed, records-length}
use Rattle.graph.specs.Graph.{FewNodes, taken_by}
use Rattle.graph.proofs.Turns.{Still, settle, is_over}

abbrev pub root_at : List ℕ → ℕ → List ℕ
root_at l s = headed l 0 s (origin_word Root) (distance_word 0)

-- l₀ is the list with node 0 in it
pub record Running (next : ℕ → ℕ → Answer) (a s : ℕ) (l₀ l : List ℕ) (n x k : ℕ) : Type 0 where
  pub low : k ≤ n
  pub one : 1 ≤ n
  pub few : n ≤ most_nodes
  pub bound : x ≤ k * a
  pub near : Near l a n
  pub tail : drop graph_words l ≡ drop graph_words l₀
  pub held : Still l₀ (visited next a most_nodes (To s) k) l a n x (k * a)

nothing : (l : List ℕ) (a : ℕ) → Kept l l a 0 0 0 empty
unfolding column links_in
nothing l a = record { size = refl; leading = refl; width = refl; words = refl; apart = λ i h. absurd (omega arith); origins = refl; distances = refl; edges = λ i j h b. absurd (omega arith); rest = refl }

rebased : {l₀ l : List ℕ} {a n x e : ℕ} {g : Graph} → Kept l₀ l a n x e g → Kept l l a n x e g
rebased h = record { size = h.size; leading = h.leading; width = h.width; words = h.words; apart = h.apart; origins = h.origins; distances = h.distances; edges = h.edges; rest = refl }

pub first-node : (next : ℕ → ℕ → Answer) (a s : ℕ) (l l₀ : List ℕ) → l₀ ≡ root_at l s → stride a ≤ length l → Running next a s l₀ l₀ 1 0 0
unfolding visited
first-node next a s l l₀ root room =
    let k = kept-stored l l a 0 0 0 empty (nothing l a) (omega (arith, zero-mul (stride a))) Root s (origin_word Root) (distance_word 0) (omega (arith, zero-mul (stride a))) refl refl refl in
    record {
      low = omega arith;
      one = omega arith;
      few = omega arith;
      bound = omega arith;
      near = rw root (rw (zero-mul (stride a)) at (near-stored l a 0 s (origin_word Root) (distance_word 0) (omega (arith, zero-mul (stride a))) (omega arith) (λ i h. absurd (omega arith))));
      tail = refl;
      held = rw (root, zero-mul a) (rebased (rw (zero-mul (stride a)) at k));
    }

root_tail : (l : List ℕ) (s m : ℕ) → header ≤ m → drop m (root_at l s) ≡ drop m l
root_tail l s m h = headed-drop l 0 s (origin_word Root) (distance_word 0) m (omega arith)

module _ (next : ℕ → ℕ → Answer) (a s : ℕ) (l₁ l₀ l : List ℕ) (root : l₀ ≡ root_at l₁ s) (n x k : ℕ) (inv : Running next a s l₀ l n x k) where
  module _ (r : Option (ℕ × ℕ)) (l' : List ℕ) (lt : k < n) (t : Turned (λ g. turns next most_nodes g k a) l a n x (k * a) r l' (k * a + a)) where
    taken : (y : Result) → Still l₀ y l a n x (k * a) → Mid l₀ (node next a most_nodes y k) r l' a (k * a + a)
    taken (Done g) h = let c = h.size in rw (lt-ltb k (count g) (omega arith)) (t.held l₀ g h)
    taken Over h = absurd h

    pub taken-on : (c d : ℕ) → r ≡ Some (c, d) → Running next a s l₀ l' c d (k + 1)
    unfolding visited
    taken-on c d is =
        let f : Fair l' a n (k * a + a) (Some (c, d)) = rw is at t.fair in
        let next_place : (k + 1) * a ≡ k * a + a = rw add-one (suc-mul k a) in
        record {
          low = omega arith;
          one = omega arith;
          few = f.1;
          bound = rw next_place f.2;
          near = f.3;
          tail = t.tail ∙ inv.tail;
          held =
              rw (next_place, add-one k)
              (settle l₀ (node next a most_nodes (visited next a most_nodes (To s) k) k) l' a c d (k * a + a) (rw is at (taken (visited next a most_nodes (To s) k) inv.held)));
        }

    pub all-over : r ≡ None → Filled a (explored next a most_nodes (To s)) r l₁ l'
    unfolding visited
    all-over is =
        let f = inv.few in
        rw (explored-over next a most_nodes (To s) (suc k) (omega arith)
        (is_over l₀ (node next a most_nodes (visited next a most_nodes (To s) k) k) l' a (k * a + a) (rw is at (taken (visited next a most_nodes (To s) k) inv.held))))
        (is, t.tail ∙ inv.tail ∙ rw root (root_tail l₁ s graph_words (omega arith)))

  pub all_done : n ≤ k → record_place a n ≤ length l → Filled a (explored next a most_nodes (To s)) (Some (n, x)) l₁ l
  all_done past wide = go (visited next a most_nodes (To s) k) refl inv.held
    where
      go : (y : Result) → visited next a most_nodes (To s) k ≡ y → Still l₀ y l a n x (k * a) → Filled a (explored next a most_nodes (To s)) (Some (n, x)) l₁ l
      go (Done g) e h =
          let c = h.size in
          let low = inv.low in
          let f = inv.few in
          let some = inv.one in
          let all : k ≡ n = omega arith in
          let h' : Kept l₀ l a n x (n * a) g = rw all at h in
          let far : header ≤ record_place a n = omega (arith, mul-le-mul_right (stride a) some) in
          rw (explored-done next a most_nodes (To s) g k (omega arith) (omega arith) e)
          (rw (c, h.leading) (refl, listed l₀ l a n x g h' wide ∙ rw (root, root_tail l₁ s (record_place a n) far)))
      go Over e h = absurd h

-- ---- the clearing of what is left behind the records, where y is the start's answer
pub rest_cleared : (xs ys : List ℕ) (a n N : ℕ) → a ≤ N → N ≤ length xs → n ≡ N - a → ys ≡ replicate n 0 ++ drop n (mid_of a (length xs - a) xs)
    → put_mid a (length xs - a) xs ys ≡ take a xs ++ (replicate (N - a) 0 ++ drop N xs)
rest_cleared xs ys a n N low high is e =
    let none : post_of a (length xs - a) xs ≡ [] = Post-is a (length xs) xs (omega arith) ∙ drop-length xs in
    let whole : mid_of a (length xs - a) xs ≡ drop a xs = take_all (length xs - a) (drop a xs) (omega (arith, length-drop a xs)) in
    let there : a + (N - a) ≡ N = omega arith in
    let rest : drop (N - a) (drop a xs) ≡ drop N xs = drop-drop (N - a) a xs ∙ ap (λ (k : ℕ). drop k xs) there in
    let zeros : ys ≡ replicate (N - a) 0 ++ drop N xs = e ∙ rw (is, whole, rest) refl in
    rw (none, append-nil ys) (ap (λ (z : List ℕ). take a xs ++ z) zeros)

abbrev pub Leaves : (ℕ → ℕ → Answer) → ℕ → Answer → List ℕ → Option (ℕ × ℕ) → List ℕ → Type 0
Leaves next a y l₀ r l = (r ≡ explored_of (explored next a most_nodes y)) × (l ≡ graph_list a (explored next a most_nodes y) l₀)

module _ (next : ℕ → ℕ → Answer) (a : ℕ) (l₀ : List ℕ) where
  module _ (w : ℕ) (r : Option (ℕ × ℕ)) (l : List ℕ) (filled : Filled a (explored next a most_nodes (To w)) r l₀ l) where
    pub few-found : FewNodes r
    few-found = go (explored next a most_nodes (To w)) refl filled
      where
        go : (q : Result) → explored next a most_nodes (To w) ≡ q → Filled a q r l₀ l → FewNodes r
        go (Done g) e f = rw f.0 (theorem.whole (To w) next a most_nodes g e).within
        go Over e f = rw f.0 tt

    pub cleared-found : {y : Answer} → y ≡ To w → a ≤ 16 → (l' : List ℕ) (used : ℕ) → used ≡ taken_by a r
        → l' ≡ take used l ++ (replicate (graph_words - used) 0 ++ drop graph_words l) → Leaves next a y l₀ r l'
    cleared-found from ha l' used is left = rw from (go (explored next a most_nodes (To w)) refl filled)
      where
        go : (q : Result) → explored next a most_nodes (To w) ≡ q → Filled a q r l₀ l → (r ≡ explored_of q) × (l' ≡ graph_list a q l₀)
        go (Done g) e f =
            let records = records_of a g (count g) in
            let place = record_place a (count g) in
            let long : length records ≡ place = records-length a g (count g) in
            let few : place ≤ graph_words = most (count g) a (theorem.whole (To w) next a most_nodes g e).within ha in
            let here : used ≡ place = is ∙ ap (taken_by a) f.0 in
            let past : place + (graph_words - place) ≡ graph_words = omega arith in
            let same : graph_words ≡ length records + (graph_words - place) = omega (arith, long) in
            let front : take place l ≡ records = rw f.1 (take_at records (drop place l₀) place long) in
            let rest : drop graph_words l ≡ drop graph_words l₀ =
            ap (λ (m : List ℕ). drop graph_words m) f.1 ∙ ap (λ (k : ℕ). drop k (records ++ drop place l₀)) same ∙ drop-append-add records (drop place l₀) (graph_words - place)
            ∙ drop-drop (graph_words - place) place l₀ ∙ ap (λ (k : ℕ). drop k l₀) past in
            (f.0, left ∙ rw (here, front, rest) refl)
        go Over e f = let none : used ≡ 0 = is ∙ ap (taken_by a) f.0 in (f.0, left ∙ rw (none, f.1) refl)

  pub cleared-none : {y : Answer} → y ≡ Nowhere → (l' : List ℕ) → l' ≡ replicate graph_words 0 ++ drop graph_words l₀ → Leaves next a y l₀ (Some (0, 0)) l'
  unfolding visited records_of links_in
  cleared-none from l' blank = rw (from, explored-done next a most_nodes Nowhere empty 0 (omega arith) (omega arith) refl) (refl, rw (zero-mul (stride a)) blank)
