-- The bytes of words, and the words of bytes: each gives back the other.
use mathlib.Core.Path.{◌≡◌, refl, ◌∙◌}
use mathlib.Core.List.{List, [], ◌∷◌}
use Prim.Native.Nat.{ℕ, zero, suc, ◌+◌, ◌*◌, ◌/◌, ◌%◌, ◌<◌}
use native.Mathlib.Omega.{arith}
use lib.ListN.{length, get_or}
use Rattle.little.specs.LittleEndian.{word_at, words_of, bytes_of, Below}

module _ (a b c d : ℕ) (bs : List ℕ) where
  past : (n m : ℕ) → n ≡ m + 4 → get_or (a ∷ b ∷ c ∷ d ∷ bs) n 0 ≡ get_or bs m 0
  past n m e = let far : n ≡ suc (suc (suc (suc m))) = omega arith in rw far

  behind : (k : ℕ) → word_at (a ∷ b ∷ c ∷ d ∷ bs) (suc k) ≡ word_at bs k
  behind k =
      rw (
        past (suc k * 4) (k * 4) (omega arith),
        past (suc k * 4 + 1) (k * 4 + 1) (omega arith),
        past (suc k * 4 + 2) (k * 4 + 2) (omega arith),
        past (suc k * 4 + 3) (k * 4 + 3) (omega arith),
      )

  front : (n : ℕ) → words_of (a ∷ b ∷ c ∷ d ∷ bs) (suc n) ≡ (a + b * 256 + c * 65536 + d * 16777216) ∷ words_of bs n
  unfolding words_of
  front zero = refl
  front (suc n) = rw (front n, behind n)

-- ---- from words to bytes and back
pub words_of_bytes : (ws : List ℕ) → Below 4294967296 ws → words_of (bytes_of ws) (length ws) ≡ ws
unfolding words_of bytes_of Below
words_of_bytes [] h = refl
words_of_bytes (w ∷ ws) h =
    let low : w < 4294967296 = h.0 in
    let first : w ≡ w % 256 + w / 256 * 256 = omega arith in
    let second : w / 256 ≡ w / 256 % 256 + w / 65536 * 256 = omega arith in
    let third : w / 65536 ≡ w / 65536 % 256 + w / 16777216 * 256 = omega arith in
    let last : w / 16777216 % 256 ≡ w / 16777216 = omega arith in
    let is : w % 256 + w / 256 % 256 * 256 + w / 65536 % 256 * 65536 + w / 16777216 % 256 * 16777216 ≡ w = omega (arith, first, second, third, last) in
    front (w % 256) (w / 256 % 256) (w / 65536 % 256) (w / 16777216 % 256) (bytes_of ws) (length ws) ∙ rw (is, words_of_bytes ws h.1)

pub length_bytes : (ws : List ℕ) → length (bytes_of ws) ≡ length ws * 4
unfolding bytes_of
length_bytes [] = refl
length_bytes (w ∷ ws) = omega (arith, length_bytes ws)

-- ---- and from bytes to words and back
pub bytes_of_words : (n : ℕ) (b : List ℕ) → length b ≡ n * 4 → Below 256 b → bytes_of (words_of b n) ≡ b
unfolding words_of bytes_of Below
bytes_of_words zero [] e h = refl
bytes_of_words zero (a ∷ b) e h = absurd (omega arith)
bytes_of_words (suc n) (a ∷ b ∷ c ∷ d ∷ bs) e h =
    let h0 : a < 256 = h.0 in
    let h1 : b < 256 = h.1.0 in
    let h2 : c < 256 = h.1.1.0 in
    let h3 : d < 256 = h.1.1.1.0 in
    let w = a + b * 256 + c * 65536 + d * 16777216 in
    let e0 : w % 256 ≡ a = omega arith in
    let q1 : w / 256 ≡ b + c * 256 + d * 65536 = omega arith in
    let q2 : w / 65536 ≡ c + d * 256 = omega arith in
    let q3 : w / 16777216 ≡ d = omega arith in
    let e1 : w / 256 % 256 ≡ b = rw q1 (omega arith) in
    let e2 : w / 65536 % 256 ≡ c = rw q2 (omega arith) in
    let e3 : w / 16777216 % 256 ≡ d = rw q3 (omega arith) in
    rw (front a b c d bs n, e0, e1, e2, e3, bytes_of_words n bs (omega arith) h.1.1.1.1)
bytes_of_words (suc n) [] e h = absurd (omega arith)
bytes_of_words (suc n) (a ∷ []) e h = absurd (omega arith)
bytes_of_words (suc n) (a ∷ b ∷ []) e h = absurd (omega arith)
bytes_of_words (suc n) (a ∷ b ∷ c ∷ []) e h = absurd (omega arith)
