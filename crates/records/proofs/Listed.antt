-- The finished list:
--     listed                 a list that holds a whole graph is its records
--     record_at, edge_at     what stands where in a list of records
use mathlib.Core.Path.{◌≡◌, refl, sym, ap, ◌∙◌}
use mathlib.Core.Logic.{⊎_elim}
use mathlib.Core.List.{List, [], ◌∷◌, ◌++◌, append_assoc}
use Prim.Native.Nat.{ℕ, zero, suc, ◌+◌, ◌*◌, ◌<◌, ◌≤◌}
use native.Mathlib.Omega.{arith}
use native.Mathlib.Nat.{suc-mul, zero-mul, not-suc-le-zero}
use lib.ListN.{length, take, drop, get_or, length-append, length-drop, take-append-drop, get_or-append}
use lib.Seq.{get_or-append-add, take-add, get_or-take, get_or-drop, get_or_at, ext_get_or, length-take-le}
use Rattle.search.specs.Search.{Root, Graph, edge}
use Rattle.search.proofs.Count.{lt_or_le}
use Rattle.records.specs.Records.{origin_word, distance_word, edge_word, header, stride, distance_offset, record_place, edge_place, edge_row, node_record, records_of}
use Rattle.records.specs.Steps.{origin_offset, Kept}
use Rattle.records.proofs.Places.{row_within, column-at, mapped_at}

row-length : (a : ℕ) (g : Graph) (k j : ℕ) → length (edge_row a g k j) ≡ j
unfolding edge_row
row-length a g k zero = refl
row-length a g k (suc j) = length-append (edge_row a g k j) (edge_word (edge a g k j) ∷ []) ∙ omega (arith, row-length a g k j)

row_at : (a : ℕ) (g : Graph) (k j r : ℕ) → r < j → get_or (edge_row a g k j) r 0 ≡ edge_word (edge a g k r)
unfolding edge_row
row_at a g k zero r h = absurd (not-suc-le-zero h)
row_at a g k (suc j) r h =
    ⊎_elim (λ lt. get_or-append (edge_row a g k j) (edge_word (edge a g k j) ∷ []) 0 r (omega (arith, row-length a g k j)) ∙ row_at a g k j r lt)
    (λ le. let e : r ≡ j = omega arith in rw e (get_or_at (edge_row a g k j) (edge_word (edge a g k j)) [] 0 j (row-length a g k j))) (lt_or_le r j)

module _ (l₀ l : List ℕ) (a n x : ℕ) (g : Graph) (h : Kept l₀ l a n x (n * a) g) (room : record_place a n ≤ length l) where
  record-word : (k r : ℕ) → k < n → r < stride a → get_or l (record_place a k + r) 0 ≡ get_or (node_record a g k) r 0
  record-word k zero b hr = sym (column-at l a 0 n k b) ∙ ap (λ (y : List ℕ). get_or y k 0) h.words
  record-word k (suc zero) b hr = mapped_at l a origin_offset n k b origin_word g.origins Root h.origins
  record-word k (suc (suc zero)) b hr = mapped_at l a distance_offset n k b distance_word g.distances 0 h.distances
  record-word k (suc (suc (suc r))) b hr =
      ap (λ (y : ℕ). get_or l (record_place a k + y) 0) (omega arith) ∙ h.edges k r (omega arith) (omega (arith, row_within k n a b)) ∙ sym (row_at a g k a r (omega arith))

  rows : (k : ℕ) → k ≤ n → take (record_place a k) l ≡ records_of a g k
  unfolding records_of
  rows zero b = ap (λ (y : ℕ). take y l) (zero-mul (stride a))
  rows (suc k) b =
      let s = stride a in
      let p = record_place a k in
      let part : length (take s (drop p l)) ≡ s = length-take-le s (drop p l) (omega (arith, length-drop p l, row_within k n s b)) in
      let row : take s (drop p l) ≡ node_record a g k =
      ext_get_or 0 (take s (drop p l)) (node_record a g k) (omega (arith, part, row-length a g k a))
      (λ r hr. let hs : r < s = omega (arith, part) in get_or-take s (drop p l) r 0 hs ∙ get_or-drop p l r 0 ∙ record-word k r b hs) in
      ap (λ (y : ℕ). take y l) (suc-mul k s) ∙ take-add p s l ∙ rw (rows k (omega arith), row)

  pub listed : l ≡ records_of a g n ++ drop (record_place a n) l₀
  listed = sym (take-append-drop (record_place a n) l) ∙ rw (rows n (omega arith), h.rest)

-- ---- its words are read there
pub records-length : (a : ℕ) (g : Graph) (n : ℕ) → length (records_of a g n) ≡ record_place a n
unfolding records_of
records-length a g zero = sym (zero-mul (stride a))
records-length a g (suc n) = length-append (records_of a g n) (node_record a g n) ∙ omega (arith, records-length a g n, row-length a g n a, suc-mul n (stride a))

pub record_at : (a : ℕ) (g : Graph) (n : ℕ) (rest : List ℕ) (k r : ℕ) → k < n → r < stride a → get_or (records_of a g n ++ rest) (record_place a k + r) 0 ≡ get_or (node_record a g k) r 0
unfolding records_of
record_at a g zero rest k r hk hr = absurd (not-suc-le-zero hk)
record_at a g (suc n) rest k r hk hr =
    let len = records-length a g n in
    rw (append_assoc (records_of a g n) (node_record a g n) rest)
    (⊎_elim (λ lt. record_at a g n (node_record a g n ++ rest) k r lt hr)
    (λ le. let e : k ≡ n = omega arith in
    ap (λ (y : ℕ). get_or (records_of a g n ++ (node_record a g n ++ rest)) (y + r) 0) (ap (λ (y : ℕ). record_place a y) e ∙ sym len)
    ∙ get_or-append-add (records_of a g n) (node_record a g n ++ rest) r 0 ∙ get_or-append (node_record a g n) rest 0 r (omega (arith, row-length a g n a))
    ∙ ap (λ (y : ℕ). get_or (node_record a g y) r 0) (sym e)) (lt_or_le k n))

-- the edge word of node k and action j
pub edge_at : (a : ℕ) (g : Graph) (n : ℕ) (rest : List ℕ) (k j : ℕ) → k < n → j < a → get_or (records_of a g n ++ rest) (edge_place a k j) 0 ≡ edge_word (edge a g k j)
edge_at a g n rest k j hk hj =
    let past : header + j ≡ suc (suc (suc j)) = omega arith in
    record_at a g n rest k (header + j) hk (omega arith) ∙ ap (λ (y : ℕ). get_or (node_record a g k) y 0) past ∙ row_at a g k a j hj
