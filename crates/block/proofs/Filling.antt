-- The pass over the entries for 64 nodes at once: one entry more.
use mathlib.Core.Path.{◌≡◌, refl, sym, ap, ◌∙◌}
use mathlib.Core.Bool.{Bool, true, false, cond}
use mathlib.Core.Logic.{⊎_elim, ◌↔◌}
use mathlib.Core.List.{List, []}
use Prim.Native.Nat.{ℕ, zero, suc, ◌+◌, ◌*◌, ◌/◌, ◌%◌, ◌^◌, ◌<◌, ◌≤◌, max, min}
use native.Mathlib.Nat.{lt_of_le_of_lt, zero-mul, one-mul}
use native.Mathlib.Omega.{arith}
use native.Mathlib.Decide.{dec_lt, ℕ_discrete}
use lib.ListN.{length, get_or, set, take, length-set}
use lib.Seq.{get_or-set_same, get_or-set_other}
use lib.Bits.{bit_and, bit_or, and_le_l}
use borrow.Author.Count.{below_more}
use borrow.Author.Tests.{eqb-true, eq-eqb, ne_eqb}
use Rattle.sets.specs.Sets.{bit_of, Member, within}
use Rattle.sets.proofs.Bits.{bit_lt, zero_or_one, bit-and, bit-or, bit-zero, bit_pow, bit_pow_only, same_digits}
use Rattle.gather.specs.Gathering.{with_entry, gather_from}
use Rattle.gather.specs.declared.Entry.{Entry}
use Rattle.gather.proofs.Tables.{no_entry, gather-next}
use Rattle.gather.proofs.Shown.{never}
use Rattle.block.proofs.Meeting.{member_below}
use Rattle.block.specs.Blocks.{Columns, Meets, Row, Rows, after, Block, digit}

-- ---- all the literals of a set of 32
within_32 : (p n : ℕ) → p < 2 ^ 32 → (within p n ≡ true) ↔ ((c : ℕ) → c < 32 → Member c p → Member c n)
within_32 p n h = (
  λ t j l m. omega (arith, m, bit_lt j n, ap (bit_of j) (eqb-true (bit_and p n) p t), bit-and j p n),
  λ s. eq-eqb (bit_and p n) p
      (same_digits 32 (bit_and p n) p (lt_of_le_of_lt (and_le_l p n) h) h
      (λ j l. ⊎_elim (λ e. omega (arith, e, bit-and j p n)) (λ e. omega (arith, e, s j l e, bit-and j p n)) (zero_or_one (bit_lt j p)))),
)

-- a bit that is told by a test
pub told : (x : ℕ) (b : Bool) → x < 2 → (b ≡ true → x ≡ 1) → (x ≡ 1 → b ≡ true) → x ≡ digit b
told x true l to back = to refl
told x false l to back = ⊎_elim (λ z. z) (λ m. never (back m)) (zero_or_one l)

pub met : {nodes cols : List ℕ} (p q : ℕ) → Columns nodes cols → p < 2 ^ 32 → Meets cols 0 p q → (i : ℕ) → i < 64 → bit_of i q ≡ digit (within p (get_or nodes i 0))
met {nodes} {cols} p q k h f i l = told (bit_of i q) (within p (get_or nodes i 0)) (bit_lt i q) to back
  where
    below : (c : ℕ) → Member c p → c < 32
    below c m = member_below 32 c p h m

    at : (c : ℕ) → Member c p → bit_of i (get_or cols (0 + c) 0) ≡ bit_of c (get_or nodes i 0)
    at c m = let e : 0 + c ≡ c = omega arith in let lc = below c m in rw e (k.same i c l (omega arith))

    to : within p (get_or nodes i 0) ≡ true → Member i q
    to t = (f i l).1 (λ c m. at c m ∙ (within_32 p (get_or nodes i 0) h).0 t c (below c m) m)

    back : Member i q → within p (get_or nodes i 0) ≡ true
    back m = (within_32 p (get_or nodes i 0) h).1 (λ c lc z. sym (at c z) ∙ (f i l).0 m c z)

-- ---- one entry more, at one place
-- at the entry's own place
own : (n g : ℕ) (e : Entry) → bit_of (e.key % 64) (with_entry (e.key / 64) n g e) ≡ max (bit_of (e.key % 64) g) (digit (within e.premises n))
own n g e = rw (eq-eqb (e.key / 64) (e.key / 64) refl) (go (within e.premises n))
  where
    j : ℕ
    j = e.key % 64

    go : (b : Bool) → bit_of j (cond b (bit_or g (2 ^ j)) g) ≡ max (bit_of j g) (digit b)
    go true = omega (arith, bit-or j g (2 ^ j), bit_pow j, bit_lt j g)
    go false = omega arith

-- at any other place of any action
aside : (k n g : ℕ) (e : Entry) → (k ≡ e.key → ⊥) → bit_of (k % 64) (with_entry (k / 64) n g e) ≡ bit_of (k % 64) g
aside k n g e h = elim (ℕ_discrete (e.key / 64) (k / 64)) [
  | yes q ↦ rw (eq-eqb (e.key / 64) (k / 64) q) (either q (within e.premises n))
  | no q ↦ rw (ne_eqb (e.key / 64) (k / 64) q)
]
  where
    other : (e.key / 64 ≡ k / 64) → bit_of (k % 64) (bit_or g (2 ^ (e.key % 64))) ≡ bit_of (k % 64) g
    other q =
        ⊎_elim (λ z. omega (arith, z, bit-or (k % 64) g (2 ^ (e.key % 64)))) (λ m. absurd (h (omega (arith, q, bit_pow_only (k % 64) (e.key % 64) m))))
        (zero_or_one (bit_lt (k % 64) (2 ^ (e.key % 64))))

    either : (e.key / 64 ≡ k / 64) → (b : Bool) → bit_of (k % 64) (cond b (bit_or g (2 ^ (e.key % 64))) g) ≡ bit_of (k % 64) g
    either q true = other q
    either q false = refl

-- ---- what is kept
pub row_next : {t t' cols : List ℕ} {at m : ℕ} (p : ℕ) → Row t at m cols p t' → at + p < length t → (x : ℕ) → x ≡ bit_of p m * get_or cols p 0 → Row t at m cols (p + 1) (set t' (at + p) x)
row_next {t} {t'} {cols} {at} {m} p r h x e =
    let long = r.long in
    record {
      long = length-set t' (at + p) x ∙ long;
      inside = below_more _ _ (λ q l. get_or-set_other t' (at + p) (at + q) x 0 (λ e. omega arith) ∙ r.inside q l) (get_or-set_same t' (at + p) x 0 (omega arith) ∙ e);
      before = λ n l. get_or-set_other t' (at + p) n x 0 (λ e. omega arith) ∙ r.before n l;
    }

pub rows_next : {kept cols t t' : List ℕ} (a m : ℕ) → Rows kept cols a t → m ≡ get_or kept a 0 → Row t (a * 64) m cols 64 t' → Rows kept cols (a + 1) t'
rows_next {kept} {cols} {t} {t'} a m f e r = record {
  long = omega (arith, r.long, f.long);
  same = λ k l. elim (dec_lt k (a * 64)) [
    | yes h ↦ r.before k h ∙ f.same k h
    | no h ↦
        let q : a * 64 + k % 64 ≡ k = omega arith in
        let d : k / 64 ≡ a = omega arith in
        ap (λ (n : ℕ). get_or t' n 0) (sym q) ∙ r.inside (k % 64) (omega arith) ∙ rw (e, d)
  ];
}

-- a bit of a word that is there, or of none
times_bit : (i b x : ℕ) → b < 2 → bit_of i (b * x) ≡ b * bit_of i x
times_bit i zero x h = let e : 0 * x ≡ 0 = zero-mul x in rw e (bit-zero i ∙ sym (zero-mul (bit_of i x)))
times_bit i (suc zero) x h = rw (one-mul x) (sym (one-mul (bit_of i x)))
times_bit i (suc (suc b)) x h = absurd (omega arith)

both_bits : (x y : ℕ) → x < 2 → y < 2 → x * y ≡ min y x
both_bits zero y h l = omega arith
both_bits (suc zero) y h l = omega arith
both_bits (suc (suc x)) y h l = absurd (omega arith)

-- ---- the loop
pub block_none : (kept nodes cols t : List ℕ) → Columns nodes cols → Rows kept cols 16 t → Block kept nodes [] t
unfolding gather_from
block_none kept nodes cols t c f = record {
  long = f.long;
  same = λ i k li lk.
      let m = get_or kept (k / 64) 0 in
      let n = get_or nodes i 0 in
      let q = k % 64 in
      ap (bit_of i) (f.same k (omega arith)) ∙ times_bit i (bit_of q m) (get_or cols q 0) (bit_lt q m) ∙ ap (λ (b : ℕ). bit_of q m * b) (c.same i q li (omega arith)) ∙ both_bits (bit_of q m) (bit_of q n) (bit_lt q m) (bit_lt q n) ∙ sym (bit-and q n m);
}

module _ (kept nodes : List ℕ) (es : List Entry) (i : ℕ) (h : i < length es) {t : List ℕ} (b : Block kept nodes (take i es) t) where
  abbrev here : Entry
  here = get_or es i no_entry

  -- what is known after action a at a node, of the first j entries
  abbrev at : ℕ → ℕ → ℕ → ℕ
  at a n j = after kept a n (take j es)

  next : (a n : ℕ) → at a n (i + 1) ≡ with_entry a n (at a n i) here
  next a n = gather-next a n (bit_and n (get_or kept a 0)) es i h

  pub block-hit : (q : ℕ) → here.key < 1024 → ((x : ℕ) → x < 64 → bit_of x q ≡ digit (within here.premises (get_or nodes x 0)))
      → Block kept nodes (take (i + 1) es) (set t here.key (bit_or (get_or t here.key 0) q))
  block-hit q l m =
      let key = here.key in
      let w = bit_or (get_or t key 0) q in
      let long = b.long in
      record {
        long = omega (arith, length-set t key w, long);
        same = λ x k lx lk.
            let n = get_or nodes x 0 in
            elim (ℕ_discrete k key) [
              | yes e ↦ rw e (ap (bit_of x) (get_or-set_same t key w 0 (omega arith)) ∙ bit-or x (get_or t key 0) q ∙ rw (b.same x key lx l, m x lx) (sym (ap (bit_of (key % 64)) (next (key / 64) n) ∙ own n (at (key / 64) n i) here)))
              | no e ↦ ap (bit_of x) (get_or-set_other t key k w 0 e) ∙ b.same x k lx lk ∙ sym (ap (bit_of (k % 64)) (next (k / 64) n) ∙ aside k n (at (k / 64) n i) here e)
            ];
      }

  pub block-miss : 1024 ≤ here.key → Block kept nodes (take (i + 1) es) t
  block-miss l = record {
    long = b.long;
    same = λ x k lx lk.
        let n = get_or nodes x 0 in
        b.same x k lx lk ∙ sym (ap (bit_of (k % 64)) (next (k / 64) n) ∙ aside k n (at (k / 64) n i) here (λ e. omega arith));
  }

-- ---- the table by actions and places
pub placed : {kept nodes t : List ℕ} {es : List Entry} → Block kept nodes es t → (i j q : ℕ) → i < 64 → j < 16 → q < 64 → bit_of i (get_or t (j * 64 + q) 0) ≡ bit_of q (after kept j (get_or nodes i 0) es)
placed b i j q li lj lq =
    let e : (j * 64 + q) % 64 ≡ q = omega arith in
    let f : (j * 64 + q) / 64 ≡ j = omega arith in
    b.same i (j * 64 + q) li (omega arith) ∙ rw (e, f)
