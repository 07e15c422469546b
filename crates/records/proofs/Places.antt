-- Where records stand, and the lookup among them:
--     row_within, most, one_more      records lie one after another, and within their room
--     column-length, column-at, mapped_at, column-same   a column's words, and those of another list
--     headed-word, -origin, -distance, -other, -drop, -length   the first words of a record, and what is not there
--     tried, none_found, found        the loop that looks a word up
--     firsts_more                     one word more that is not there yet
--     zeros-left                      what is left of a run of zeros
use mathlib.Core.Path.{◌≡◌, refl, sym, ap, subst, ◌∙◌}
use mathlib.Core.Logic.{◌⊎◌, ⊎_elim}
use mathlib.Core.List.{List, [], ◌∷◌, ◌++◌, map}
use Prim.Native.Nat.{ℕ, zero, suc, ◌+◌, ◌-◌, ◌*◌, ◌<◌, ◌≤◌}
use native.Mathlib.Omega.{arith}
use native.Mathlib.Nat.{sub-zero, suc-sub-suc, suc-mul, mul-le-mul, mul-le-mul_right, not-suc-le-zero}
use lib.ListN.{length, get_or, set, drop, replicate, length-replicate, length-append, length-map, length-set, get_or-append}
use lib.Seq.{drop-append-le, drop-set-lt, get_or-set_same, get_or-set_other, get_or_at}
use Rattle.integers.proofs.Fill.{get_d_mapped}
use Rattle.search.specs.Search.{seek}
use Rattle.search.proofs.Count.{eq_or_ne, lt_or_le, seek_found, seek-bound, seek_le}
use Rattle.records.specs.Records.{most_nodes, header, graph_words, stride, distance_offset, record_place}
use Rattle.records.specs.Steps.{origin_offset, headed, column, Firsts}

pub row_within : (i n s : ℕ) → i < n → i * s + s ≤ n * s
row_within i n s h = omega (arith, mul-le-mul_right s h, suc-mul i s)

pub most : (n a : ℕ) → n ≤ most_nodes → a ≤ 16 → record_place a n ≤ graph_words
most n a few ha = mul-le-mul {n₁ = n} {m₁ = stride a} {n₂ = most_nodes} {m₂ = stride 16} few (omega arith)

pub one_more : (n a : ℕ) → n < most_nodes → a ≤ 16 → record_place a n + stride a ≤ graph_words
one_more n a h ha = omega (arith, row_within n most_nodes (stride a) h)

-- the record of a node, and those that are there
pub rooms : (n k a : ℕ) → n ≤ most_nodes → a ≤ 16 → k < n → (record_place a k + stride a ≤ record_place a n) × (record_place a n ≤ graph_words)
rooms n k a few ha hk = (row_within k n (stride a) hk, most n a few ha)

-- ---- columns
column-length : (l : List ℕ) (a c n : ℕ) → length (column l a c n) ≡ n
unfolding column
column-length l a c zero = refl
column-length l a c (suc n) = length-append (column l a c n) (get_or l (record_place a n + c) 0 ∷ []) ∙ omega (arith, column-length l a c n)

pub column-at : (l : List ℕ) (a c n k : ℕ) → k < n → get_or (column l a c n) k 0 ≡ get_or l (record_place a k + c) 0
unfolding column
column-at l a c zero k h = absurd (not-suc-le-zero h)
column-at l a c (suc n) k h =
    ⊎_elim (λ lt. get_or-append (column l a c n) (get_or l (record_place a n + c) 0 ∷ []) 0 k (omega (arith, column-length l a c n)) ∙ column-at l a c n k lt)
    (λ le. let e : k ≡ n = omega arith in rw e (get_or_at (column l a c n) (get_or l (record_place a n + c) 0) [] 0 n (column-length l a c n))) (lt_or_le k n)

-- the first word of a record
pub first-at : (l : List ℕ) (a n k : ℕ) → k < n → get_or (column l a 0 n) k 0 ≡ get_or l (record_place a k) 0
first-at l a n k h = let e : record_place a k + 0 ≡ record_place a k = omega arith in column-at l a 0 n k h ∙ ap (λ (x : ℕ). get_or l x 0) e

-- a column that has the words of a list's elements
pub mapped_at : {A : Type 0} (l : List ℕ) (a c n k : ℕ) → k < n → (f : A → ℕ) (xs : List A) (d : A) → column l a c n ≡ map f xs → get_or l (record_place a k + c) 0 ≡ f (get_or xs k d)
mapped_at l a c n k h f xs d e =
    let len : length xs ≡ n = sym (length-map xs f) ∙ sym (ap length e) ∙ column-length l a c n in
    sym (column-at l a c n k h) ∙ ap (λ (y : List ℕ). get_or y k 0) e ∙ get_d_mapped f xs k d 0 (omega arith)

pub column-same : (l m : List ℕ) (a c n : ℕ) → ((i : ℕ) → i < n → get_or m (record_place a i + c) 0 ≡ get_or l (record_place a i + c) 0) → column m a c n ≡ column l a c n
unfolding column
column-same l m a c zero same = refl
column-same l m a c (suc n) same = rw (column-same l m a c n (λ i h. same i (omega arith)), same n (omega arith))

-- ---- the first words of a record
module _ (l : List ℕ) (p w o d : ℕ) where
  abbrev with-origin : List ℕ
  with-origin = set (set l p w) (p + origin_offset) o

  pub headed-length : length (headed l p w o d) ≡ length l
  headed-length = simp length-set refl

  pub headed-drop : (m : ℕ) → p + header ≤ m → drop m (headed l p w o d) ≡ drop m l
  headed-drop m h =
      drop-set-lt m with-origin (p + distance_offset) d (omega arith) ∙ drop-set-lt m (set l p w) (p + origin_offset) o (omega arith) ∙ drop-set-lt m l p w (omega arith)

  pub headed-other : (q : ℕ) → (q < p) ⊎ (p + header ≤ q) → get_or (headed l p w o d) q 0 ≡ get_or l q 0
  headed-other q out =
      get_or-set_other with-origin (p + distance_offset) q d 0 (apart distance_offset (omega arith))
      ∙ get_or-set_other (set l p w) (p + origin_offset) q o 0 (apart origin_offset (omega arith)) ∙ get_or-set_other l p q w 0 (λ e. ⊎_elim (λ lt. omega arith) (λ ge. omega arith) out)
    where
      apart : (c : ℕ) → c < header → q ≡ p + c → ⊥
      apart c h e = ⊎_elim (λ lt. omega arith) (λ ge. omega arith) out

  module _ (room : p + header ≤ length l) where
    pub headed-word : get_or (headed l p w o d) p 0 ≡ w
    headed-word =
        get_or-set_other with-origin (p + distance_offset) p d 0 (λ e. omega arith)
        ∙ get_or-set_other (set l p w) (p + origin_offset) p o 0 (λ e. omega arith) ∙ get_or-set_same l p w 0 (omega arith)

    pub headed-origin : get_or (headed l p w o d) (p + origin_offset) 0 ≡ o
    headed-origin =
        get_or-set_other with-origin (p + distance_offset) (p + origin_offset) d 0 (λ e. omega arith)
        ∙ get_or-set_same (set l p w) (p + origin_offset) o 0 (omega (arith, length-set l p w))

    pub headed-distance : get_or (headed l p w o d) (p + distance_offset) 0 ≡ d
    headed-distance = get_or-set_same with-origin (p + distance_offset) d 0 (omega (arith, length-set (set l p w) (p + origin_offset) o, length-set l p w))

-- ---- the lookup
-- a candidate is tried, and has another word
pub tried : (P : ℕ → Type 0) (n i left : ℕ) → ((k : ℕ) → left ≤ k → k < n → (k ≡ i → ⊥) → P k → ⊥) → (P i → ⊥) → (k : ℕ) → left ≤ k → k < n → P k → ⊥
tried P n i left before other k ge lt p = ⊎_elim (λ e. other (subst P e p)) (λ ne. before k ge lt ne p) (eq_or_ne k i)

-- none of n nodes has the word
pub none_found : (l : List ℕ) (a n w : ℕ) → ((k : ℕ) → k < n → get_or l (record_place a k) 0 ≡ w → ⊥) → seek w (column l a 0 n) ≡ n
none_found l a n w other =
    let cs = column l a 0 n in
    let len : length cs ≡ n = column-length l a 0 n in
    ⊎_elim (λ lt. absurd (other (seek w cs) lt (sym (first-at l a n (seek w cs) lt) ∙ seek_found w cs (omega (arith, len)))))
    (λ ge. omega (arith, seek-bound w cs, len)) (lt_or_le (seek w cs) n)

-- the node that has the word is the first one
pub found : (l : List ℕ) (a n w h : ℕ) → h < n → get_or l (record_place a h) 0 ≡ w → Firsts (column l a 0 n) → h ≡ seek w (column l a 0 n)
found l a n w h lt e firsts =
    let z = firsts h (omega (arith, column-length l a 0 n)) in
    sym (subst (λ (u : ℕ). seek u (column l a 0 n) ≡ h) (first-at l a n h lt ∙ e) z)

-- one word more that is not there yet
pub firsts_more : (ws : List ℕ) (w : ℕ) → Firsts ws → seek w ws ≡ length ws → Firsts (ws ++ (w ∷ []))
firsts_more ws w firsts new i h =
    let zs = ws ++ (w ∷ []) in
    let len : length zs ≡ length ws + 1 = length-append ws (w ∷ []) in
    let u = get_or zs i 0 in
    let s = seek u zs in
    let le : s ≤ i = seek_le u zs i h refl in
    let at : get_or zs s 0 ≡ u = seek_found u zs (omega (arith, le, h)) in
    ⊎_elim
    (λ lt.
    let low : seek u ws ≤ s = seek_le u ws s (omega (arith, len)) (sym (get_or-append ws (w ∷ []) 0 s (omega (arith, len))) ∙ at) in
    ⊎_elim (λ b. let f : seek u ws ≡ i = subst (λ (v : ℕ). seek v ws ≡ i) (sym (get_or-append ws (w ∷ []) 0 i b)) (firsts i b) in omega (arith, low, lt, f))
    (λ b. let e : i ≡ length ws = omega (arith, len) in
    let f : seek u ws ≡ length ws = subst (λ (v : ℕ). seek v ws ≡ length ws) (sym (get_or_at ws w [] 0 i (sym e))) new in omega (arith, low, lt, f, e)) (lt_or_le i (length ws)))
    (λ b. omega (arith, le, b)) (lt_or_le s i)

-- ---- what is left of a run of zeros
drop-zeros : (m N : ℕ) → m ≤ N → drop {A = ℕ} m (replicate N 0) ≡ replicate (N - m) 0
drop-zeros zero N h = rw (sub-zero N)
drop-zeros (suc m) zero h = absurd (not-suc-le-zero h)
drop-zeros (suc m) (suc N) h = drop-zeros m N (omega arith) ∙ rw (suc-sub-suc N m)

pub zeros-left : (m N : ℕ) (rest z : List ℕ) → m ≤ N → z ≡ replicate N 0 ++ rest → drop m z ≡ replicate (N - m) 0 ++ rest
zeros-left m N rest z h e = rw e (drop-append-le m (replicate N 0) rest (omega (arith, length-replicate {A = ℕ} N 0)) ∙ rw (drop-zeros m N h))
