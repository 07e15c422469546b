-- Laws of words, fields and two's complement.
use mathlib.Core.Path.{◌≡◌, refl, sym, ap, ◌∙◌}
use mathlib.Core.Bool.{Bool, true, false, not}
use Prim.Native.Nat.{ℕ, suc, ◌+◌, ◌-◌, ◌^◌, ◌<◌, ◌≤◌}
use native.Mathlib.Omega.{arith}
use lib.Pow.{pow_pos}
use lib.Dec.{eqb, ltb}
use lib.IntN.{ℤ, pos, negsuc, ◌-ℤ◌}
use lib.Signed.{◌≤ℤ◌}
use borrow.Author.Tests.{ltb-true, ltb-false, lt-ltb, le-ltb}
use Rattle.integers.proofs.Int.{var, num, ◌⊕◌, ⊖, up, dn, le_in, le_out, equal}
use Rattle.integers.proofs.Tests.{not-true, not-false}
use Rattle.words.specs.Words.{kind_of, payload, word, signed, unsigned}

-- what a test `k != m` of a word's kind says of the kind
pub other-kind : (m : ℕ) {k n : ℕ} {r : Bool} → k ≡ n → r ≡ not (eqb k m) → r ≡ true → eqb n m ≡ false
other-kind m e t p = rw (← e) (not-true _ (sym t ∙ p))

pub that-kind : (m : ℕ) {k n : ℕ} {r : Bool} → k ≡ n → r ≡ not (eqb k m) → r ≡ false → eqb n m ≡ true
that-kind m e t p = rw (← e) (not-false _ (sym t ∙ p))

pub kind_word : (k p : ℕ) → p < 2 ^ 28 → kind_of (word k p) ≡ k
kind_word k p h = omega arith

pub payload-word : (k p : ℕ) → p < 2 ^ 28 → payload (word k p) ≡ p
payload-word k p h = omega arith

pub word_split : (w : ℕ) {k : ℕ} → kind_of w ≡ k → w ≡ word k (payload w)
word_split w h = omega arith

-- a number with the top bit set stands for itself less the whole
negative : (whole n : ℕ) → n < whole → pos n -ℤ pos whole ≡ negsuc (whole - suc n)
unfolding up dn
negative whole n h = equal (num n ⊕ ⊖ (num whole)) (var (negsuc (whole - suc n))) (omega arith)

module _ (wide : ℕ) (double : 2 ^ wide ≡ 2 ^ (wide - 1) + 2 ^ (wide - 1)) where
  pub signed-small : (n : ℕ) → n < 2 ^ (wide - 1) → signed wide n ≡ pos n
  signed-small n h = rw (lt-ltb n (2 ^ (wide - 1)) h)

  pub signed-large : (n : ℕ) → 2 ^ (wide - 1) ≤ n → n < 2 ^ wide → signed wide n ≡ negsuc (2 ^ wide - suc n)
  signed-large n h k = rw (le-ltb n (2 ^ (wide - 1)) h, ← double) (negative (2 ^ wide) n k)

  -- the bits of a number, read back
  pub signed-unsigned : (z : ℤ) → negsuc (2 ^ (wide - 1) - 1) ≤ℤ z → z ≤ℤ pos (2 ^ (wide - 1) - 1) → signed wide (unsigned wide z) ≡ z
  unfolding up dn
  signed-unsigned (pos n) l h = signed-small n (omega (arith, le_in h, pow_pos (wide - 1)))
  signed-unsigned (negsuc n) l h =
      let small : suc n ≤ 2 ^ (wide - 1) = omega (arith, le_in l, pow_pos (wide - 1)) in
      let same : 2 ^ wide - suc (2 ^ wide - suc n) ≡ n = omega arith in
      signed-large (2 ^ wide - suc n) (omega arith) (omega arith) ∙ ap negsuc same

  pub unsigned-lt : (z : ℤ) → negsuc (2 ^ (wide - 1) - 1) ≤ℤ z → z ≤ℤ pos (2 ^ (wide - 1) - 1) → unsigned wide z < 2 ^ wide
  unfolding up dn
  unsigned-lt (pos n) l h = omega (arith, le_in h, pow_pos (wide - 1))
  unsigned-lt (negsuc n) l h = omega (arith, pow_pos (wide - 1))

  by-half : (P : ℤ → Type 0) (n : ℕ) (b : Bool) → ltb n (2 ^ (wide - 1)) ≡ b → n < 2 ^ wide → (n < 2 ^ (wide - 1) → P (pos n)) → (2 ^ (wide - 1) ≤ n → P (negsuc (2 ^ wide - suc n)))
      → P (signed wide n)
  by-half P n true e h p q = let l = ltb-true n (2 ^ (wide - 1)) e in rw (signed-small n l) (p l)
  by-half P n false e h p q = let l = ltb-false n (2 ^ (wide - 1)) e in rw (signed-large n l h) (q l)

  pub unsigned_signed : (n : ℕ) → n < 2 ^ wide → unsigned wide (signed wide n) ≡ n
  unsigned_signed n h = by-half (λ z. unsigned wide z ≡ n) n (ltb n (2 ^ (wide - 1))) refl h (λ l. refl) (λ l. omega arith)

  pub signed-between : (n : ℕ) → n < 2 ^ wide → (negsuc (2 ^ (wide - 1) - 1) ≤ℤ signed wide n) × (signed wide n ≤ℤ pos (2 ^ (wide - 1) - 1))
  unfolding up dn
  signed-between n h =
      let half = 2 ^ (wide - 1) in
      by-half (λ z. (negsuc (half - 1) ≤ℤ z) × (z ≤ℤ pos (half - 1))) n (ltb n half) refl h
      (λ l. (le_out (negsuc (half - 1)) (pos n) (omega arith), le_out (pos n) (pos (half - 1)) (omega arith)))
      (λ l. (le_out (negsuc (half - 1)) (negsuc (2 ^ wide - suc n)) (omega (arith, pow_pos (wide - 1))), le_out (negsuc (2 ^ wide - suc n)) (pos (half - 1)) (omega arith)))
