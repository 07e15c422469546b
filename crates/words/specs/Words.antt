-- Words of 32 bits and their fields.
--
-- bits                 — bits hi..lo of a word
-- kind_of              — the kind, bits 31 to 28
-- payload              — the payload, bits 27 to 0
-- word                 — the word of a kind and a payload
-- DISTANCE, VAR .. END — the kinds
-- no_node, no_parent   — the payload of an EDGE that names no successor; that of node 0's ORIGIN
-- signed_by, signed    — the number that a field stands for, in two's complement
-- unsigned             — the bits of a number
-- literals_of          — the set in a SETS word
-- no_literals          — the empty set
use Rattle.std.specs.Prelude.{cond, ℕ, suc, ◌+◌, ◌-◌, ◌*◌, ◌/◌, ◌%◌, ◌^◌, ltb, ℤ, pos, negsuc, ◌-ℤ◌}
use Rattle.words.specs.declared.Literals.{Literals}

-- bits hi..lo of w
abbrev pub bits : ℕ → ℕ → ℕ → ℕ
bits hi lo w = w / 2 ^ lo % 2 ^ (suc hi - lo)

-- the kind in bits 31 to 28, the payload in bits 27 to 0
abbrev pub kind_of : ℕ → ℕ
kind_of w = w / 2 ^ 28

abbrev pub payload : ℕ → ℕ
payload w = w % 2 ^ 28

abbrev pub word : ℕ → ℕ → ℕ
word kind p = kind * 2 ^ 28 + p

abbrev pub DISTANCE : ℕ
DISTANCE = 0

abbrev pub VAR : ℕ
VAR = 1

abbrev pub ROW : ℕ
ROW = 2

abbrev pub TERM : ℕ
TERM = 3

abbrev pub INIT : ℕ
INIT = 4

abbrev pub PRED : ℕ
PRED = 5

abbrev pub ACTION : ℕ
ACTION = 6

abbrev pub SET : ℕ
SET = 7

abbrev pub SETS : ℕ
SETS = 8

abbrev pub LEMMA : ℕ
LEMMA = 9

abbrev pub MULT : ℕ
MULT = 10

abbrev pub ORIGIN : ℕ
ORIGIN = 11

abbrev pub EDGE : ℕ
EDGE = 12

abbrev pub STEP : ℕ
STEP = 13

abbrev pub FINDING : ℕ
FINDING = 14

abbrev pub END : ℕ
END = 15

-- all 28 bits ones for none
abbrev pub no_node : ℕ
no_node = 2 ^ 28 - 1

-- bits 12..0 all ones for node 0
abbrev pub no_parent : ℕ
no_parent = 2 ^ 13 - 1

-- two's complement in `wide` bits: the number that n stands for, and the bits of z
abbrev pub signed_by : ℕ → ℕ → ℤ
signed_by half n = cond (ltb n half) (pos n) (pos n -ℤ pos (half + half))

abbrev pub signed : ℕ → ℕ → ℤ
signed wide n = signed_by (2 ^ (wide - 1)) n

abbrev pub unsigned : ℕ → ℤ → ℕ
unsigned wide (pos n) = n
unsigned wide (negsuc n) = 2 ^ wide - suc n

abbrev pub literals_of : ℕ → Literals
literals_of w = record { 0 = payload w }

abbrev pub no_literals : Literals
no_literals = record { 0 = 0 }
