-- What stores of words do to a list that holds a graph:
--     kept-linked, kept-stored    an edge of a node; a record more
--     near-linked, near-stored    each distance is still at most its node's number
--     known, fresh, none          one action's turn: to a node that is there, to a new one, to none
use mathlib.Core.Path.{◌≡◌, refl, sym, ap, ◌∙◌}
use mathlib.Core.Logic.{inl, inr, ⊎_elim}
use mathlib.Core.List.{List, [], ◌∷◌, ◌++◌, map-append}
use Prim.Native.Nat.{ℕ, suc, ◌+◌, ◌*◌, ◌<◌, ◌≤◌}
use native.Mathlib.Omega.{arith}
use native.Mathlib.Nat.{suc-mul, mul-le-mul_right}
use native.Mathlib.Numerals.{add-one}
use borrow.Author.Tests.{lt-ltb, le-ltb}
use lib.ListN.{length, drop, get_or, set, length-append, get_or-append}
use lib.Seq.{get_or-set_same, get_or-set_other, drop-set-lt, drop-drop, get_or_at}
use Rattle.std.specs.Prelude.{Option, Some, None}
use Rattle.search.specs.Search.{None as Nowhere}
use Rattle.search.specs.Search.{Answer, To, Origin, From, Graph, count, distance, distance_by, links_in, seek, stored, linked, answered}
use Rattle.search.proofs.Count.{same_place, lt_or_le}
use Rattle.records.specs.Records.{origin_word, distance_word, edge_word, most_nodes, graph_words, header, stride, distance_offset, record_place, edge_place}
use Rattle.records.specs.Steps.{origin_offset, headed, column, Sought, Near, AtNode, Kept, Turned}
use Rattle.records.proofs.Places.{row_within, most, rooms, one_more, column-same, mapped_at, headed-length, headed-drop, headed-other, headed-word, headed-origin, headed-distance, firsts_more}

-- 1 for an edge that leads to a node
abbrev pub leads : Answer → ℕ
leads (To m) = 1
leads Nowhere = 0

pub links-more : (es : List Answer) (y : Answer) → links_in (es ++ (y ∷ [])) ≡ links_in es + leads y
unfolding links_in
links-more [] (To m) = refl
links-more [] Nowhere = refl
links-more (To m ∷ es) y = ap suc (links-more es y) ∙ omega arith
links-more (Nowhere ∷ es) y = links-more es y

-- the words before a node's edges are not among them
edge-apart : (l : List ℕ) (a k j v c i : ℕ) → j < a → c < header → get_or (set l (edge_place a k j) v) (record_place a i + c) 0 ≡ get_or l (record_place a i + c) 0
edge-apart l a k j v c i hj hc =
    get_or-set_other l (edge_place a k j) (record_place a i + c) v 0 (λ q. let z = (same_place (stride a) i c k (header + j) (omega arith) (omega arith) q).1 in omega arith)

near-linked : (l : List ℕ) (a n k j v : ℕ) → j < a → Near l a n → Near (set l (edge_place a k j) v) a n
near-linked l a n k j v hj near i h = rw (edge-apart l a k j v distance_offset i hj (omega arith)) (near i h)

-- nor are those of the records before it among a new one
record_apart : (l : List ℕ) (a n w o d i c : ℕ) → i < n → c < stride a → get_or (headed l (record_place a n) w o d) (record_place a i + c) 0 ≡ get_or l (record_place a i + c) 0
record_apart l a n w o d i c h hc = headed-other l (record_place a n) w o d (record_place a i + c) (inl (omega (arith, row_within i n (stride a) h)))

pub near-stored : (l : List ℕ) (a n w o d : ℕ) → record_place a n + stride a ≤ length l → d ≤ n → Near l a n → Near (headed l (record_place a n) w o d) a (n + 1)
near-stored l a n w o d room le near i h =
    ⊎_elim (λ lt. rw (record_apart l a n w o d i distance_offset lt (omega arith)) (near i lt))
    (λ ge. let e : i ≡ n = omega arith in rw (e, headed-distance l (record_place a n) w o d (omega arith)) le) (lt_or_le i n)

module _ (l₀ l : List ℕ) (a n x e : ℕ) (g : Graph) (h : Kept l₀ l a n x e g) (room : record_place a n ≤ length l) where
  pub kept-linked : (k j v : ℕ) (y : Answer) → k < n → j < a → e ≡ k * a + j → v ≡ edge_word y → Kept l₀ (set l (edge_place a k j) v) a n (x + leads y) (e + 1) (linked g y)
  kept-linked k j v y hk hj he is =
      let s = stride a in
      let p = edge_place a k j in
      let inside : p < record_place a n = omega (arith, row_within k n s hk) in
      let same : (c : ℕ) → c < header → column (set l p v) a c n ≡ column l a c n = λ c hc. column-same l (set l p v) a c n (λ i b. edge-apart l a k j v c i hj hc) in
      record {
        size = h.size;
        leading = links-more g.edges y ∙ ap (λ (m : ℕ). m + leads y) h.leading;
        width = length-append g.edges (y ∷ []) ∙ omega (arith, h.width);
        words = same 0 (omega arith) ∙ h.words;
        apart = h.apart;
        origins = same origin_offset (omega arith) ∙ h.origins;
        distances = same distance_offset (omega arith) ∙ h.distances;
        edges = λ i m hm b.
            ⊎_elim
            (λ lt. get_or-set_other l p (edge_place a i m) v 0 (λ q. let z = same_place s i (header + m) k (header + j) (omega arith) (omega arith) q in let y : i * a ≡ k * a = rw z.0 in omega arith) ∙ h.edges i m hm lt ∙ ap edge_word (sym (get_or-append g.edges (y ∷ []) Nowhere (i * a + m) (omega (arith, h.width)))))
            (λ ge. let q : i * a + m ≡ k * a + j = omega arith in let z = same_place a i m k j hm hj q in
            rw (z.0, z.1) (get_or-set_same l p v 0 (omega arith) ∙ is ∙ ap edge_word (sym (get_or_at g.edges y [] Nowhere (k * a + j) (h.width ∙ he))))) (lt_or_le (i * a + m) e);
        rest = drop-set-lt (record_place a n) l p v inside ∙ h.rest;
      }

  -- the record has no edges yet
  pub kept-stored : (o : Origin) (w v u : ℕ) → record_place a n + stride a ≤ length l → v ≡ origin_word o → u ≡ distance_word (distance_by g.distances o) → seek w g.words ≡ n
      → Kept l₀ (headed l (record_place a n) w v u) a (n + 1) x e (stored g o w)
  unfolding column
  kept-stored o w v u more is far new =
      let s = stride a in
      let p = record_place a n in
      let m = headed l p w v u in
      let flat : p + 0 ≡ p = omega arith in
      let next_row : (n + 1) * s ≡ p + s = rw add-one (suc-mul n s) in
      let kept : (c : ℕ) → c < s → column m a c n ≡ column l a c n = λ c hc. column-same l m a c n (λ i b. record_apart l a n w v u i c b hc) in
      record {
        size = length-append g.words (w ∷ []) ∙ omega (arith, h.size);
        leading = h.leading;
        width = h.width;
        words = rw (add-one n, kept 0 (omega arith), flat, headed-word l p w v u (omega arith), h.words);
        apart = firsts_more g.words w h.apart (new ∙ sym h.size);
        origins = rw (add-one n, kept origin_offset (omega arith), headed-origin l p w v u (omega arith), h.origins, is, map-append);
        distances = rw (add-one n, kept distance_offset (omega arith), headed-distance l p w v u (omega arith), h.distances, far, map-append);
        edges = λ i j hj b.
            headed-other l p w v u (edge_place a i j)
            (⊎_elim (λ lt. inl (omega (arith, row_within i n s lt))) (λ ge. inr (omega (arith, mul-le-mul_right s ge))) (lt_or_le i n)) ∙ h.edges i j hj b;
        rest = rw next_row (headed-drop l p w v u (p + s) (omega arith) ∙ sym (drop-drop s p l) ∙ ap (λ (y : List ℕ). drop s y) h.rest ∙ drop-drop s p l₀);
      }

-- ---- one action's turn
module _ (l : List ℕ) (a n x k j : ℕ) (at : AtNode l n x a k (k * a + j)) (hj : j < a) where
  wide : record_place a n ≤ length l
  wide = omega (arith, most n a at.few at.narrow)

  inside : edge_place a k j < graph_words
  inside = omega (arith, rooms n k a at.few at.narrow at.there)

  pub none : (v : ℕ) → v ≡ edge_word Nowhere
      → Turned (λ g. answered most_nodes g (From k j) Nowhere) l a n x (k * a + j) (Some (n, x)) (set l (edge_place a k j) v) (k * a + j + 1)
  none v is = record {
    fair = (omega arith, at.few, omega arith, near-linked l a n k j v hj at.near);
    tail = drop-set-lt graph_words l (edge_place a k j) v inside;
    held = λ l₀ g h.
        let flat : x + 0 ≡ x = omega arith in
        let t = kept-linked l₀ l a n x (k * a + j) g h wide k j v Nowhere at.there hj refl is in
        rw (t.size, t.leading, flat) (refl, rw flat at t);
  }

  module _ (w : ℕ) where
    -- where the word is, or that it is not there
    abbrev Found : Option ℕ → Type 0
    Found r = Sought (column l a 0 n) w n r

    missing : {l₀ : List ℕ} {g : Graph} {e : ℕ} → Kept l₀ l a n x e g → Found None → seek w g.words ≡ n
    missing h is = rw h.words at (is (rw h.words h.apart))

    pub known : (v m : ℕ) → Found (Some m) → v ≡ edge_word (To m)
        → Turned (λ g. answered most_nodes g (From k j) (To w)) l a n x (k * a + j) (Some (n, x + 1)) (set l (edge_place a k j) v) (k * a + j + 1)
    known v m is ev = record {
      fair = (omega arith, at.few, omega arith, near-linked l a n k j v hj at.near);
      tail = drop-set-lt graph_words l (edge_place a k j) v inside;
      held = λ l₀ g h.
          let here : seek w g.words ≡ m = rw h.words at (sym (is.1 (rw h.words h.apart))) in
          let below : seek w g.words < count g = omega (arith, here, is.0, h.size) in
          let t = kept-linked l₀ l a n x (k * a + j) g h wide k j v (To (seek w g.words)) at.there hj refl (rw here ev) in
          rw (lt-ltb (seek w g.words) (count g) below) (rw (t.size, t.leading) (refl, t));
    }

    -- the distance word of the parent is its distance
    parent_is : {l₀ : List ℕ} {g : Graph} {e : ℕ} → Kept l₀ l a n x e g → get_or l (record_place a k + distance_offset) 0 ≡ distance g k
    parent_is {g = g} h = let plain : distance_word (distance g k) ≡ distance g k = omega arith in mapped_at l a distance_offset n k at.there distance_word g.distances 0 h.distances ∙ plain

    pub fresh : (v u d : ℕ) → Found None → n < most_nodes → u ≡ origin_word (From k j) → d ≡ get_or l (record_place a k + distance_offset) 0 → v ≡ edge_word (To n)
        → Turned (λ g. answered most_nodes g (From k j) (To w)) l a n x (k * a + j) (Some (n + 1, x + 1))
        (set (headed l (record_place a n) w u (distance_word (d + 1))) (edge_place a k j) v) (k * a + j + 1)
    fresh v u d is some eu ed ev =
        let more = one_more n a some at.narrow in
        let m = headed l (record_place a n) w u (distance_word (d + 1)) in
        let next_row : (n + 1) * stride a ≡ record_place a n + stride a = rw add-one (suc-mul n (stride a)) in
        let same : length m ≡ length l = headed-length l (record_place a n) w u (distance_word (d + 1)) in
        record {
          fair = (
            omega arith,
            omega arith,
            omega arith,
            near-linked m a (n + 1) k j v hj (near-stored l a n w u (distance_word (d + 1)) (omega arith) (omega (arith, at.near k at.there, ed)) at.near),
          );
          tail = drop-set-lt graph_words m (edge_place a k j) v inside ∙ headed-drop l (record_place a n) w u (distance_word (d + 1)) graph_words (omega arith);
          held = λ l₀ g h.
              let here = missing h is in
              let c = h.size in
              let far : distance_word (d + 1) ≡ distance_word (suc (distance g k)) = ap distance_word (omega (arith, ed, parent_is h)) in
              let sh = kept-stored l₀ l a n x (k * a + j) g h wide (From k j) w u (distance_word (d + 1)) (omega arith) eu far here in
              let t = kept-linked l₀ m a (n + 1) x (k * a + j) (stored g (From k j) w) sh (omega (arith, next_row, same)) k j v (To (seek w g.words)) (omega arith) hj refl (rw here ev) in
              rw (le-ltb (seek w g.words) (count g) (omega arith), lt-ltb (count g) most_nodes (omega arith)) (rw (t.size, t.leading) (refl, t));
        }
