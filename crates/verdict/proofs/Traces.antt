-- The path to a node:
--     Counting, Tracing   the loops that count its steps and that write them
--     path-written        the words written are the path of the graph whose records the list has
--     traced              a whole graph's origins name earlier nodes
use mathlib.Core.Path.{◌≡◌, refl, sym, ap, ◌∙◌}
use mathlib.Core.List.{List, [], ◌∷◌, ◌++◌, map, reverse, reverse-cons, map-append, append_assoc}
use Prim.Native.Nat.{ℕ, zero, suc, ◌+◌, ◌-◌, ◌*◌, ◌/◌, ◌%◌, ◌<◌, ◌≤◌}
use native.Mathlib.Omega.{arith}
use native.Mathlib.Nat.{mul-add-mod_self_right, mod-eq_of_lt}
use borrow.Author.Tests.{eq-eqb, ne_eqb}
use lib.Dec.{eqb}
use lib.ListN.{length, take, drop, set, replicate, length-map, length-reverse, length-set, take-append-drop, drop_of_length-le}
use lib.Seq.{set_split, drop_at, take_at, take_all, length-take-le}
use Rattle.words.specs.Words.{word, STEP}
use Rattle.search.specs.Search.{Answer, Origin, Root, From, Graph, Done, count, origin}
use Rattle.search.specs.Paths.{hop, back}
use Rattle.search.proofs.Sound.{Comes}
use Rattle.search.proofs.Theorem.{Whole}
use Rattle.records.specs.Records.{origin_word, most_nodes, graph_words, record_place, graph_list}
use Rattle.records.specs.Steps.{origin_at}
use Rattle.records.proofs.Places.{zeros-left}
use Rattle.records.proofs.Listed.{record_at}
use Rattle.verdict.specs.Verdicts.{path_words, path_list, steps_to}
use Rattle.verdict.specs.Working.{hop_if, back_at, Earlier, Traced}

module _ (l : List ℕ) (a f k : ℕ) where
  at-root : origin_at l a k ≡ origin_word Root → back_at l a (suc f) k ≡ []
  unfolding back_at
  at-root e = rw (eq-eqb _ _ e)

  one-back : (origin_at l a k ≡ origin_word Root → ⊥) → back_at l a (suc f) k ≡ origin_at l a k % 16 ∷ back_at l a f (origin_at l a k / 16 % most_nodes)
  unfolding back_at
  one-back e = rw (ne_eqb _ _ e)

-- ---- counting: the steps taken and the steps left are all
pub record Counting (l : List ℕ) (a node k d : ℕ) : Type 0 where
  pub low : k < most_nodes
  pub few : d ≤ most_nodes
  pub sum : d + length (back_at l a (most_nodes - d) k) ≡ length (back_at l a most_nodes node)

module _ (l : List ℕ) (a node k d : ℕ) (inv : Counting l a node k d) (o : ℕ) (io : o ≡ origin_at l a k) where
  fuel : d < most_nodes → most_nodes - d ≡ suc (most_nodes - (d + 1))
  fuel h = omega arith

  pub counted-on : d < most_nodes → (o ≡ origin_word Root → ⊥) → (p : ℕ) → p ≡ o / 16 % most_nodes → p < most_nodes → Counting l a node p (d + 1)
  counted-on h e p is hp =
      let same : length (back_at l a (most_nodes - d) k) ≡ suc (length (back_at l a (most_nodes - (d + 1)) p)) =
      rw (fuel h, one-back l a (most_nodes - (d + 1)) k (λ z. e (io ∙ z)), is, io) in
      record { low = hp; few = omega arith; sum = omega (arith, same, inv.sum) }

  pub counted-root : d < most_nodes → o ≡ origin_word Root → d ≡ length (back_at l a most_nodes node)
  counted-root h e =
      let same : length (back_at l a (most_nodes - d) k) ≡ 0 = rw (fuel h, at-root l a (most_nodes - (d + 1)) k (sym io ∙ e)) in
      omega (arith, same, inv.sum)

pub counted-all : (l : List ℕ) (a node k d : ℕ) → Counting l a node k d → most_nodes ≤ d → d ≡ length (back_at l a most_nodes node)
unfolding back_at
counted-all l a node k d inv h =
    let f = inv.few in
    let none : most_nodes - d ≡ 0 = omega arith in
    let same : length (back_at l a (most_nodes - d) k) ≡ 0 = rw none in
    omega (arith, same, inv.sum)

-- ---- writing: the words from i on are there, and the way on is what is left
abbrev steps : List ℕ → ℕ → ℕ → List ℕ
steps l a k = map (word STEP) (reverse (back_at l a most_nodes k))

pub record Tracing (l : List ℕ) (a node d : ℕ) (p₀ p : List ℕ) (k i : ℕ) : Type 0 where
  pub low : k < most_nodes
  pub within : i ≤ d
  pub same : length p ≡ length p₀
  pub ahead : map (word STEP) (reverse (back_at l a (most_nodes - (d - i)) k)) ≡ take i (steps l a node)
  pub left : length (back_at l a (most_nodes - (d - i)) k) ≡ i
  pub there : drop i p ≡ drop i (steps l a node) ++ drop d p₀

steps-length : (l : List ℕ) (a node : ℕ) → length (steps l a node) ≡ length (back_at l a most_nodes node)
steps-length l a node = length-map (reverse (back_at l a most_nodes node)) (word STEP) ∙ length-reverse (back_at l a most_nodes node)

pub trace_begun : (l : List ℕ) (a node d : ℕ) (p : List ℕ) → node < most_nodes → d ≡ length (back_at l a most_nodes node) → d ≤ length p → Tracing l a node d p p node d
trace_begun l a node d p hn is room =
    let none : most_nodes - (d - d) ≡ most_nodes = omega arith in
    let all : length (steps l a node) ≡ d = steps-length l a node ∙ sym is in
    record {
      low = hn;
      within = omega arith;
      same = refl;
      ahead = rw none (sym (take_all d (steps l a node) (omega (arith, all))));
      left = rw none (sym is);
      there = rw (drop_of_length-le (steps l a node) {i = d} (omega (arith, all)));
    }

module _ (l : List ℕ) (a node d : ℕ) (p₀ p : List ℕ) (k i : ℕ) (inv : Tracing l a node d p₀ p k i) (some : 0 < i) (room : d ≤ length p₀) (few : d ≤ most_nodes) where
  more : most_nodes - (d - i) ≡ suc (most_nodes - (d - (i - 1)))
  more = let w = inv.within in omega arith

  not_root : origin_at l a k ≡ origin_word Root → ⊥
  not_root e =
      let z : length (back_at l a (most_nodes - (d - i)) k) ≡ 0 = rw (more, at-root l a (most_nodes - (d - (i - 1))) k e) in
      omega (arith, z, inv.left)

  pub traced-on : (o : ℕ) → o ≡ origin_at l a k → (q : ℕ) → q ≡ o / 16 % most_nodes → q < most_nodes → Tracing l a node d p₀ (set p (i - 1) (word STEP (o % 16))) q (i - 1)
  traced-on o io q iq hq =
      let w = inv.within in
      let len = inv.same in
      let v = word STEP (o % 16) in
      let b = steps l a node in
      let r = back_at l a (most_nodes - (d - (i - 1))) q in
      let x = map (word STEP) (reverse r) in
      let step_back : back_at l a (most_nodes - (d - i)) k ≡ o % 16 ∷ r = rw (more, one-back l a (most_nodes - (d - (i - 1))) k not_root, iq, io) in
      let short : length r ≡ i - 1 = omega (arith, ap length step_back, inv.left) in
      let size : length x ≡ i - 1 = length-map (reverse r) (word STEP) ∙ length-reverse r ∙ short in
      let front : x ++ (v ∷ []) ≡ take i b =
      sym (map-append (word STEP) (reverse r) (o % 16 ∷ [])) ∙ ap (map (word STEP)) (sym (reverse-cons (o % 16) r) ∙ ap reverse (sym step_back)) ∙ inv.ahead in
      let whole : x ++ (v ∷ drop i b) ≡ b = sym (append_assoc x (v ∷ []) (drop i b)) ∙ rw front (take-append-drop i b) in
      let one : suc (i - 1) ≡ i = omega arith in
      record {
        low = hq;
        within = omega arith;
        same = length-set p (i - 1) v ∙ inv.same;
        ahead = sym (ap (take (i - 1)) (sym whole) ∙ take_at x (v ∷ drop i b) (i - 1) size);
        left = short;
        there =
            ap (drop (i - 1)) (set_split p (i - 1) v (omega arith)) ∙ drop_at (take (i - 1) p) (v ∷ drop (suc (i - 1)) p) (i - 1) (length-take-le (i - 1) p (omega arith))
            ∙ rw (one, inv.there) (ap (λ (y : List ℕ). y ++ drop d p₀) (sym (ap (drop (i - 1)) (sym whole) ∙ drop_at x (v ∷ drop i b) (i - 1) size)));
      }

-- ---- the words of a graph give its path. A parent is below its child, which is at most 511, so no origin but node 0's is all ones.
module _ (a : ℕ) (g : Graph) (t : Traced a g) (ha : a ≤ 16) (l : List ℕ) (held : (k : ℕ) → k < count g → origin_at l a k ≡ origin_word (origin g k)) where
  back-same : (f k : ℕ) → k < count g → back_at l a f k ≡ back g.origins f k
  unfolding back_at back
  back-same zero k h = refl
  back-same (suc f) k h = rw (held k h) (go (origin g k) (t.earlier k h) (back-same f))
    where
      go : (o : Origin) → Earlier a k o → ((p : ℕ) → p < count g → back_at l a f p ≡ back g.origins f p)
          → hop_if (eqb (origin_word o) (origin_word Root)) (origin_word o) (back_at l a f) ≡ hop o (back g.origins f)
      go Root c ih = refl
      go (From p j) c ih =
          let few = t.few in
          let low : origin_word (From p j) ≡ origin_word Root → ⊥ = λ e. omega arith in
          let made : origin_word (From p j) ≡ (0x0B000000 + p) * 16 + j = omega arith in
          let act : origin_word (From p j) % 16 ≡ j = rw made (mul-add-mod_self_right (0x0B000000 + p) 16 j ∙ mod-eq_of_lt (omega arith)) in
          let quot : origin_word (From p j) / 16 ≡ 0x58000 * most_nodes + p = omega arith in
          let par : origin_word (From p j) / 16 % most_nodes ≡ p = rw quot (mul-add-mod_self_right 0x58000 most_nodes p ∙ mod-eq_of_lt (omega arith)) in
          rw (ne_eqb _ _ low, act, par, ih p (omega arith))

-- z is the path list when it has been cleared
pub path-written : (l : List ℕ) (a node d : ℕ) (p z q : List ℕ) → a ≤ 16 → d ≡ length (back_at l a most_nodes node) → d ≤ most_nodes
    → z ≡ replicate path_words 0 ++ drop path_words p → q ≡ steps l a node ++ drop d z
    → (g : Graph) (l₀ : List ℕ) → l ≡ graph_list a (Done g) l₀ → Traced a g → node < count g → q ≡ path_list (steps_to g node) p
path-written l a node d p z q ha is few iz iq g l₀ il t h =
    let rest = replicate (graph_words - record_place a (count g)) 0 ++ drop graph_words l₀ in
    let held : (k : ℕ) → k < count g → origin_at l a k ≡ origin_word (origin g k) = λ k b. rw il (record_at a g (count g) rest k 1 b (omega arith)) in
    let same : back_at l a most_nodes node ≡ back g.origins most_nodes node = back-same a g t ha l held most_nodes node h in
    let size : d ≡ length (steps_to g node) = is ∙ ap length same ∙ sym (length-reverse (back g.origins most_nodes node)) in
    iq ∙ rw (zeros-left d path_words (drop path_words p) z few iz, size, same) refl

pub traced : {start : Answer} {next : ℕ → ℕ → Answer} {a : ℕ} {g : Graph} → Whole start next a most_nodes g → Traced a g
traced {start} {next} {a} {g} v = record { few = v.within; earlier = λ k h. go k (origin g k) (v.comes k h) }
  where
    go : (k : ℕ) (o : Origin) → Comes start next a g.words k o → Earlier a k o
    go k Root c = tt
    go k (From p j) c = (c.0, c.1)
