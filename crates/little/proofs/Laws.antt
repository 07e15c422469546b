-- The words at the front grow by one with each turn.
use mathlib.Core.Path.{◌≡◌, refl, sym}
use mathlib.Core.List.{List, ◌++◌}
use Prim.Native.Nat.{ℕ, zero, suc, ◌+◌, ◌<◌}
use native.Mathlib.Numerals.{add-one}
use lib.ListN.{length, drop, set, get_or, length-append}
use lib.Seq.{drop-cons, set_at, append_snoc}
use Rattle.little.specs.LittleEndian.{word_at, words_of}

pub length-words : (b : List ℕ) (n : ℕ) → length (words_of b n) ≡ n
unfolding words_of
length-words b zero = refl
length-words b (suc n) = simp length-append (rw (length-words b n, add-one))

pub one_more : (b ws₀ ws : List ℕ) (k w : ℕ) → k < length ws₀ → ws ≡ words_of b k ++ drop k ws₀ → w ≡ word_at b k
    → set ws k w ≡ words_of b (k + 1) ++ drop (k + 1) ws₀
unfolding words_of
one_more b ws₀ ws k w h e ew =
    rw (e, ew, add-one k, drop-cons ws₀ k 0 h, set_at (words_of b k) (get_or ws₀ k 0) (drop (suc k) ws₀) (word_at b k) k (length-words b k))
    (sym (append_snoc (words_of b k) (word_at b k) (drop (suc k) ws₀)))
