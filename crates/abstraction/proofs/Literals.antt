-- Sets of literals and lists of literals: which literals a set has, that all of one set are among another's, and the set of a set's literals.
use mathlib.Core.Path.{◌≡◌, refl, ap, ◌∙◌}
use mathlib.Core.Bool.{Bool, true, false}
use mathlib.Core.Logic.{inl, inr, ⊎_elim, ◌↔◌}
use mathlib.Core.List.Memᴰ
use mathlib.Core.List.{List, [], ◌∷◌, ◌++◌, Memᴰ}
use Prim.Native.Nat.{ℕ, zero, suc, ◌+◌, ◌-◌, ◌*◌, ◌/◌, ◌%◌, ◌^◌, ◌<◌, ◌≤◌}
use native.Mathlib.Omega.{arith}
use lib.Pow.{pow-add, mod-pow-add}
use borrow.Author.Tests.{eqb-true, eqb-false, eq-eqb}
use Rattle.sets.specs.Sets.{bit_of, Member, Subset}
use Rattle.sets.proofs.Bits.{bit_lt, bit_shr, bit_mod}
use Rattle.words.specs.LiteralSets.{Literal, B, NotB, predicate_of, has, literal_if, literals_in, set_of}
use Rattle.formula.proofs.Laws.{in_append}
use Rattle.search.proofs.Count.{lt_or_le}
use Rattle.gather.proofs.Shown.{never}
use Rattle.integers.proofs.Tests.{and-true, or_cases, same_test}
use Rattle.abstraction.specs.Abstraction.{same_literal, among, all_among}

-- ---- the tests are membership
pub same-is : (l m : Literal) → (same_literal l m ≡ true) ↔ (l ≡ m)
same-is (B i) (B j) = (λ h. ap B (eqb-true i j h), λ e. eq-eqb i j (cc))
same-is (B i) (NotB j) = (λ h. never h, λ e. let z : ◌≡◌ {A = ℕ} 0 1 = cc in absurd (omega arith))
same-is (NotB i) (B j) = (λ h. never h, λ e. let z : ◌≡◌ {A = ℕ} 0 1 = cc in absurd (omega arith))
same-is (NotB i) (NotB j) = (λ h. ap NotB (eqb-true i j h), λ e. eq-eqb i j (cc))

pub among-is : (l : Literal) (ms : List Literal) → (among l ms ≡ true) ↔ Memᴰ l ms
unfolding among
among-is l [] = (λ h. never h, λ d. absurd (Memᴰ.not-nil d))
among-is l (m ∷ ms) =
    let (to, back) = same-is l m in
    let (there, here) = among-is l ms in
    let (split, join) = or_cases (same_literal l m) (among l ms) in (
      λ h. ⊎_elim (λ q. Memᴰ.head (to q)) (λ q. Memᴰ.tail (there q)) (split h),
      λ d. join (⊎_elim (λ q. inl (back q)) (λ q. inr (here q)) (Memᴰ.cases_cons d)),
    )

pub all-among-is : (ls ms : List Literal) → (all_among ls ms ≡ true) ↔ ((l : Literal) → Memᴰ l ls → Memᴰ l ms)
unfolding all_among
all-among-is [] ms = (λ h l d. absurd (Memᴰ.not-nil d), λ f. refl)
all-among-is (l ∷ ls) ms =
    let (to, back) = among-is l ms in
    let (there, here) = all-among-is ls ms in (
      λ h. let (a, b) = and-true (among l ms) (all_among ls ms) h in
          λ m d. ⊎_elim (λ q. rw q (to a)) (λ q. there b m q) (Memᴰ.cases_cons d),
      λ f. rw (back (f l (Memᴰ.head refl)), here (λ m d. f m (Memᴰ.tail d))) refl,
    )

-- ---- a set's literals
-- a literal's place in a set
abbrev pub place_in : Literal → ℕ
place_in (B j) = j
place_in (NotB j) = 14 + j

if_is : (l m : Literal) (b : Bool) → Memᴰ l (literal_if b m) ↔ ((b ≡ true) × (l ≡ m))
if_is l m true = (λ d. (refl, Memᴰ.eq_of_singleton d), λ h. Memᴰ.head h.1)
if_is l m false = (λ d. absurd (Memᴰ.not-nil d), λ h. never h.0)

literal_in : (n set : ℕ) (l : Literal) → Memᴰ l (literals_in n set) ↔ ((predicate_of l < n) × Member (place_in l) set)
unfolding literals_in
literal_in zero set l = (λ d. absurd (Memᴰ.not-nil d), λ h. absurd (omega arith))
literal_in (suc n) set l = (
  λ d. ⊎_elim (λ q. let (a, b) = (literal_in n set l).0 q in (omega arith, b)) (λ q. ⊎_elim positive negative (Memᴰ.append_cases (literal_if (has n set) (B n)) q)) (Memᴰ.append_cases (literals_in n set) d),
  λ h. ⊎_elim (λ q. in_append (literals_in n set) (inl ((literal_in n set l).1 (q, h.1)))) (λ q. in_append (literals_in n set) (inr (last l (omega arith) h.1))) (lt_or_le (predicate_of l) n),
)
  where
    positive : Memᴰ l (literal_if (has n set) (B n)) → (predicate_of l < suc n) × Member (place_in l) set
    positive d = let (b, e) = (if_is l (B n) (has n set)).0 d in rw e (omega arith, eqb-true (bit_of n set) 1 b)

    negative : Memᴰ l (literal_if (has (14 + n) set) (NotB n)) → (predicate_of l < suc n) × Member (place_in l) set
    negative d = let (b, e) = (if_is l (NotB n) (has (14 + n) set)).0 d in rw e (omega arith, eqb-true (bit_of (14 + n) set) 1 b)

    last : (m : Literal) → predicate_of m ≡ n → Member (place_in m) set → Memᴰ m (literal_if (has n set) (B n) ++ literal_if (has (14 + n) set) (NotB n))
    last (B j) e m = rw e (in_append (literal_if (has n set) (B n)) (inl ((if_is (B n) (B n) (has n set)).1 (eq-eqb (bit_of n set) 1 (rw e at m), refl))))
    last (NotB j) e m = rw e (in_append (literal_if (has n set) (B n)) (inr ((if_is (NotB n) (NotB n) (has (14 + n) set)).1 (eq-eqb (bit_of (14 + n) set) 1 (rw e at m), refl))))

-- a literal is one of a set's exactly if the set has its place
pub among_in : (set : ℕ) (l : Literal) → predicate_of l < 14 → among l (literals_in 14 set) ≡ has (place_in l) set
among_in set l h =
    let (to, back) = among-is l (literals_in 14 set) in
    let (out, into) = literal_in 14 set l in
    same_test (among l (literals_in 14 set)) (has (place_in l) set) (λ e. eq-eqb (bit_of (place_in l) set) 1 (out (to e)).1) (λ e. back (into (h, eqb-true (bit_of (place_in l) set) 1 e)))

place_lt : (l : Literal) → predicate_of l < 14 → place_in l < 28
place_lt (B j) h = omega arith
place_lt (NotB j) h = omega arith

-- all literals of one set are among another's exactly if the one is within the other
pub subset_is : (s t : ℕ) → (all_among (literals_in 14 s) (literals_in 14 t) ≡ true) ↔ Subset s t
subset_is s t =
    let (to, back) = all-among-is (literals_in 14 s) (literals_in 14 t) in (
      λ h. reached (to h),
      λ u. back (λ l d. let (a, b) = (literal_in 14 s l).0 d in (literal_in 14 t l).1 (a, u (place_in l) (place_lt l a) b)),
    )
  where
    reached : ((l : Literal) → Memᴰ l (literals_in 14 s) → Memᴰ l (literals_in 14 t)) → Subset s t
    reached f j h m =
        ⊎_elim (λ lt. ((literal_in 14 t (B j)).0 (f (B j) ((literal_in 14 s (B j)).1 (lt, m)))).1)
        (λ le. let e : j ≡ 14 + (j - 14) = omega arith in
        let d = f (NotB (j - 14)) ((literal_in 14 s (NotB (j - 14))).1 (omega arith, rw e at m)) in
        rw e ((literal_in 14 t (NotB (j - 14))).0 d).1) (lt_or_le j 14)

-- ---- the set of a set's literals
set_append : (xs ys : List Literal) → set_of (xs ++ ys) ≡ set_of xs + set_of ys
unfolding set_of
set_append [] ys = omega arith
set_append (B j ∷ xs) ys = omega (arith, set_append xs ys)
set_append (NotB j ∷ xs) ys = omega (arith, set_append xs ys)

true_weight : (n g : ℕ) (b : Bool) → has n g ≡ b → set_of (literal_if b (B n)) ≡ bit_of n g * 2 ^ n
unfolding set_of
true_weight n g true e = rw (eqb-true (bit_of n g) 1 e) (omega arith)
true_weight n g false e =
    let z : bit_of n g ≡ 0 = omega (arith, eqb-false (bit_of n g) 1 e, bit_lt n g) in
    rw z (omega arith)

false_weight : (n g : ℕ) (b : Bool) → has (14 + n) g ≡ b → set_of (literal_if b (NotB n)) ≡ bit_of n (g / 2 ^ 14) * 2 ^ n * 2 ^ 14
unfolding set_of
false_weight n g true e = rw (bit_shr 14 n g, eqb-true (bit_of (14 + n) g) 1 e, pow-add 2 14 n) (omega arith)
false_weight n g false e =
    let z : bit_of (14 + n) g ≡ 0 = omega (arith, eqb-false (bit_of (14 + n) g) 1 e, bit_lt (14 + n) g) in
    rw (bit_shr 14 n g, z) (omega arith)

mod_suc : (n g : ℕ) → g % 2 ^ suc n ≡ bit_of n g * 2 ^ n + g % 2 ^ n
mod_suc n g = let e : suc n ≡ 1 + n = omega arith in rw e (mod-pow-add g 1 n)

set_below : (n g : ℕ) → set_of (literals_in n g) ≡ g % 2 ^ n + g / 2 ^ 14 % 2 ^ n * 2 ^ 14
unfolding set_of literals_in
set_below zero g = omega arith
set_below (suc n) g =
    set_append (literals_in n g) _
    ∙ rw (set_append (literal_if (has n g) (B n)) (literal_if (has (14 + n) g) (NotB n)), set_below n g, true_weight n g (has n g) refl, false_weight n g (has (14 + n) g) refl, mod_suc n g, mod_suc n (g / 2 ^ 14))
    (omega arith)

pub set-literals : (g : ℕ) → set_of (literals_in 14 g) ≡ g % 2 ^ 28
set-literals g = set_below 14 g ∙ omega arith

-- what stands past the 28 places makes no literal
pub literals_mod : (n g : ℕ) → n ≤ 14 → literals_in n (g % 2 ^ 28) ≡ literals_in n g
unfolding literals_in
literals_mod zero g h = refl
literals_mod (suc n) g h = rw (literals_mod n g (omega arith), bit_mod 28 n g (omega arith), bit_mod 28 (14 + n) g (omega arith))
