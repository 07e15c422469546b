-- The words after the nodes, back from the table.
use mathlib.Core.Path.{◌≡◌, refl, sym, ap, ◌∙◌}
use mathlib.Core.Bool.{Bool, true, false, not, ◌||◌}
use mathlib.Core.Logic.{◌⊎◌, inl, inr, ⊎_elim, ◌↔◌}
use mathlib.Core.List.{List}
use Prim.Native.Nat.{ℕ, zero, suc, ◌+◌, ◌*◌, ◌/◌, ◌%◌, ◌^◌, ◌<◌}
use native.Mathlib.Omega.{arith}
use native.Mathlib.Decide.{ℕ_discrete}
use lib.ListN.{length, get_or, set, length-set}
use lib.Seq.{get_or-set_same, get_or-set_other}
use borrow.Author.Tests.{eqb-true, eq-eqb}
use Rattle.sets.specs.Sets.{bit_of, Member, apart}
use Rattle.sets.proofs.Bits.{bit_lt, zero_or_one, bit-and, bit-or, bit_shr, bit_mod, same_digits}
use Rattle.sets.proofs.Laws.{mixed_is}
use lib.Bits.{bit_and, bit_or}
use Rattle.gather.proofs.Shown.{never}
use Rattle.block.proofs.Filling.{told, placed}
use Rattle.gather.specs.Gathering.{blocked}
use Rattle.gather.specs.declared.Entry.{Entry}
use Rattle.transpose.specs.Transposing.{Transposed}
use Rattle.block.specs.Blocks.{after, Block, Words, half_of, none_of, Gone}

-- p words of the table from `at` on, and p words 64 further on
pub record Laid (t : List ℕ) (at p : ℕ) (a : List ℕ) : Type 0 where
  pub long : length a ≡ 64
  pub same : (q e : ℕ) → q < p → e < 2 → get_or a (32 * e + q) 0 ≡ get_or t (at + (64 * e + q)) 0

pub laid_next : {t a : List ℕ} {at : ℕ} (p : ℕ) → Laid t at p a → p < 32 → Laid t at (p + 1) (set (set a p (get_or t (at + p) 0)) (32 + p) (get_or t (at + (64 + p)) 0))
laid_next {t} {a} {at} p f h =
    let x = get_or t (at + p) 0 in
    let y = get_or t (at + (64 + p)) 0 in
    let long = f.long in
    let wide = length-set a p x in
    record {
      long = length-set (set a p x) (32 + p) y ∙ wide ∙ long;
      same = λ q e l k. elim (ℕ_discrete (32 * e + q) (32 + p)) [
        | yes z ↦ ap (λ (n : ℕ). get_or (set (set a p x) (32 + p) y) n 0) z ∙ get_or-set_same (set a p x) (32 + p) y 0 (omega arith) ∙ same t (at + (64 + p)) (at + (64 * e + q)) (omega arith)
        | no z ↦ get_or-set_other (set a p x) (32 + p) (32 * e + q) y 0 z ∙ elim (ℕ_discrete (32 * e + q) p) [
          | yes v ↦ ap (λ (n : ℕ). get_or (set a p x) n 0) v ∙ get_or-set_same a p x 0 (omega arith) ∙ same t (at + p) (at + (64 * e + q)) (omega arith)
          | no v ↦ get_or-set_other a p (32 * e + q) x 0 v ∙ f.same q e (omega (arith, z, v)) k
        ]
      ];
    }
  where
    same : (l : List ℕ) (m n : ℕ) → m ≡ n → get_or l m 0 ≡ get_or l n 0
    same l m n e = ap (λ (i : ℕ). get_or l i 0) e

module _ (h : ℕ) (kept nodes : List ℕ) (es : List Entry) {t a r : List ℕ} (hh : h < 8) (b : Block kept nodes es t) (k : Laid t (h * 128) 28 a) (u : Transposed a r) where
  column : (i c e n : ℕ) → i < 64 → c < 28 → e < 2 → n ≡ 32 * e + c → bit_of i (get_or a n 0) ≡ bit_of c (after kept (2 * h + e) (get_or nodes i 0) es % 2 ^ 28)
  column i c e n li l le f =
      let g : h * 128 + (64 * e + c) ≡ (2 * h + e) * 64 + c = omega arith in
      ap (λ (m : ℕ). bit_of i (get_or a m 0)) f ∙ ap (bit_of i) (k.same c e l le) ∙ ap (λ (m : ℕ). bit_of i (get_or t m 0)) g
      ∙ placed b i (2 * h + e) c li (omega arith) (omega arith) ∙ sym (bit_mod 28 c (after kept (2 * h + e) (get_or nodes i 0) es) l)

  word : (i e : ℕ) → i < 64 → e < 2 → half_of (get_or r i 0) e ≡ after kept (2 * h + e) (get_or nodes i 0) es % 2 ^ 28
  word i zero l le =
      same_digits 28 (get_or r i 0 % 2 ^ 28) (after kept (2 * h + 0) (get_or nodes i 0) es % 2 ^ 28) (omega arith) (omega arith)
      (λ c lc. bit_mod 28 c (get_or r i 0) lc ∙ u.same i c l (omega arith) ∙ column i c 0 c l lc le (omega arith))
  word i (suc zero) l le =
      same_digits 28 (get_or r i 0 / 2 ^ 32 % 2 ^ 28) (after kept (2 * h + 1) (get_or nodes i 0) es % 2 ^ 28) (omega arith) (omega arith)
      (λ c lc. bit_mod 28 c (get_or r i 0 / 2 ^ 32) lc ∙ bit_shr 32 c (get_or r i 0) ∙ u.same i (32 + c) l (omega arith) ∙ column i c 1 (32 + c) l lc le (omega arith))
  word i (suc (suc e)) l le = absurd (omega arith)

  pub words-made : Words h kept nodes es r
  words-made = record { long = u.long; same = word }

-- ---- the nodes that have no successor
-- p predicates asked, and the place that says that the action cannot happen
pub record Mixed (t : List ℕ) (at p r : ℕ) : Type 0 where
  pub same : (i : ℕ) → i < 64 → Member i r ↔ (Member i (get_or t (at + 44) 0) ⊎ ((q : ℕ) × (q < p) × Member i (get_or t (at + q) 0) × Member i (get_or t (at + (14 + q)) 0)))

pub mixed_next : {t : List ℕ} {at r : ℕ} (p : ℕ) → Mixed t at p r → Mixed t at (p + 1) (bit_or r (bit_and (get_or t (at + p) 0) (get_or t (at + (14 + p)) 0)))
mixed_next {t} {at} {r} p f =
    let x = get_or t (at + p) 0 in
    let y = get_or t (at + (14 + p)) 0 in
    record {
      same = λ i l.
          let (to, back) = f.same i l in
          let o = bit-or i r (bit_and x y) in
          let a = bit-and i x y in (
            λ m. ⊎_elim (λ z. ⊎_elim (λ w. inl w) (λ w. let (q, lq, mx, my) = w in inr (q, omega arith, mx, my)) (to (omega (arith, m, o, a, z))))
                (λ z. inr (p, omega arith, omega (arith, z, a, bit_lt i x), omega (arith, z, a, bit_lt i y))) (zero_or_one (bit_lt i (bit_and x y))),
            λ s. ⊎_elim (λ w. omega (arith, o, back (inl w), bit_lt i (bit_and x y)))
                (λ w. let (q, lq, mx, my) = w in
                elim (ℕ_discrete q p) [
                  | yes e ↦ let mx' : Member i x = rw e at mx in let my' : Member i y = rw e at my in omega (arith, o, a, mx', my', bit_lt i r)
                  | no e ↦ omega (arith, o, back (inr (q, omega (arith, e), mx, my)), bit_lt i (bit_and x y))
                ]) s,
          );
    }

-- the test of successor_of, place by place
none_is : (g : ℕ) → (none_of g ≡ true) ↔ (Member 44 g ⊎ ((p : ℕ) × (p < 14) × Member p g × Member (14 + p) g))
none_is g = (
  λ t. ⊎_elim (λ b. inl (eqb-true (bit_of 44 g) 1 b)) (λ a. let (p, l, m, n) = (mixed_is (g % 2 ^ 28)).0 a in inr (p, l, sym (bit_mod 28 p g (omega arith)) ∙ m, sym (bit_mod 28 (14 + p) g (omega arith)) ∙ n))
      (either (blocked g) (apart (g % 2 ^ 28)) t),
  λ s. ⊎_elim (λ m. rw (eq-eqb (bit_of 44 g) 1 m))
      (λ w. let (p, l, m, n) = w in
      let a : apart (g % 2 ^ 28) ≡ false = (mixed_is (g % 2 ^ 28)).1 (p, l, bit_mod 28 p g (omega arith) ∙ m, bit_mod 28 (14 + p) g (omega arith) ∙ n) in
      rw a (or_true (blocked g))) s,
)
  where
    either : (b a : Bool) → (b || not a) ≡ true → (b ≡ true) ⊎ (a ≡ false)
    either true a t = inl refl
    either false true t = never t
    either false false t = inr refl

    or_true : (b : Bool) → (b || true) ≡ true
    or_true true = refl
    or_true false = refl

pub gone_made : (j : ℕ) (kept nodes : List ℕ) (es : List Entry) {t : List ℕ} {r : ℕ} → j < 16 → Block kept nodes es t → Mixed t (j * 64) 14 r → Gone j kept nodes es r
gone_made j kept nodes es {t} {r} hj b f = record {
  same = λ i l.
      let g = after kept j (get_or nodes i 0) es in
      let (to, back) = f.same i l in
      let (there, here) = none_is g in
      told (bit_of i r) (none_of g) (bit_lt i r)
      (λ n. back (⊎_elim (λ m. inl (placed b i j 44 l hj (omega arith) ∙ m)) (λ w. let (p, lp, m, n) = w in inr (p, lp, placed b i j p l hj (omega arith) ∙ m, placed b i j (14 + p) l hj (omega arith) ∙ n)) (there n)))
      (λ n. here (⊎_elim (λ m. inl (sym (placed b i j 44 l hj (omega arith)) ∙ m)) (λ w. let (p, lp, m, n) = w in inr (p, lp, sym (placed b i j p l hj (omega arith)) ∙ m, sym (placed b i j (14 + p) l hj (omega arith)) ∙ n)) (to n)));
}
