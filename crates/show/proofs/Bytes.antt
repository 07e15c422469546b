-- The words in a show's bytes: those whose bytes they are, and the other way.
use mathlib.Core.Path.{◌≡◌}
use mathlib.Core.List.{List}
use Prim.Native.Nat.{ℕ, ◌/◌, ◌%◌}
use native.Mathlib.Omega.{arith}
use lib.ListN.{length}
use Rattle.little.specs.LittleEndian.{bytes_of, Below}
use Rattle.little.proofs.Bytes.{length_bytes, words_of_bytes, bytes_of_words}
use Rattle.show.specs.Show.{words_in}

pub words_in_bytes : (ws : List ℕ) → Below 4294967296 ws → words_in (bytes_of ws) ≡ ws
words_in_bytes ws h = let n : length (bytes_of ws) / 4 ≡ length ws = omega (arith, length_bytes ws) in rw n (words_of_bytes ws h)

pub bytes_of_show : (b : List ℕ) → length b % 4 ≡ 0 → Below 256 b → bytes_of (words_in b) ≡ b
bytes_of_show b e h = bytes_of_words (length b / 4) b (omega arith) h
