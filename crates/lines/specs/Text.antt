-- Text and decimal numbers in a list of bytes.
--
-- text    — the bytes of a text, the codes of its characters
-- spelled — the decimal digits of a number, the highest first, in at most as many bytes as the first argument says
-- decimal — the same, where 20 are enough for every number of 64 bits
-- field   — a text, then a number
-- line    — two fields and a newline
use Rattle.std.specs.Prelude.{cond, List, [], ◌∷◌, ◌++◌, ℕ, zero, suc, ◌+◌, ◌/◌, ◌%◌, ltb}
use Prim.Native.Char.{code}
use Prim.Native.String.{String}
use Prim.Native.String.{[] as ended, ◌∷◌ as ◌then◌}

abbrev pub text : String → List ℕ
text ended = []
text (c then s) = code c ∷ text s

unfoldable pub spelled : ℕ → ℕ → List ℕ
spelled zero n = []
spelled (suc k) n = cond (ltb n 10) ((48 + n) ∷ []) (spelled k (n / 10) ++ ((48 + n % 10) ∷ []))

unfoldable pub decimal : ℕ → List ℕ
decimal n = spelled 20 n

abbrev pub field : List ℕ → ℕ → List ℕ
field text n = text ++ decimal n

unfoldable pub line : List ℕ → ℕ → List ℕ → ℕ → List ℕ
line first n second m = field first n ++ field second m ++ text "\n"
