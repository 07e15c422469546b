-- Words of 32 bits out of bytes, the lowest byte first.
--
-- word_at  — word k of a list of bytes
-- words_of — the first n words of a list of bytes
-- bytes_of — the bytes of words
-- Below    — every number of a list is below a bound
use Rattle.std.specs.Prelude.{ℕ, zero, suc, ◌+◌, ◌*◌, ◌/◌, ◌%◌, ◌<◌, List, [], ◌∷◌, ◌++◌, get_or}

abbrev pub word_at : List ℕ → ℕ → ℕ
word_at b k = get_or b (k * 4) 0 + get_or b (k * 4 + 1) 0 * 256 + get_or b (k * 4 + 2) 0 * 65536 + get_or b (k * 4 + 3) 0 * 16777216

unfoldable pub words_of : List ℕ → ℕ → List ℕ
words_of b zero = []
words_of b (suc n) = words_of b n ++ (word_at b n ∷ [])

unfoldable pub bytes_of : List ℕ → List ℕ
bytes_of [] = []
bytes_of (w ∷ ws) = w % 256 ∷ w / 256 % 256 ∷ w / 65536 % 256 ∷ w / 16777216 % 256 ∷ bytes_of ws

unfoldable pub Below : ℕ → List ℕ → Type 0
Below n [] = Unit {0}
Below n (x ∷ xs) = (x < n) × Below n xs
