-- The other lemma lists of the worked table. Each line is one lemma.
--
-- fade_first_zero                                                    — Fade's first lemma with all multipliers 0
-- house_start, house_before, house_fails, house_behind, house_lemmas — House's lemmas: that P0 fails at the start; those before the one for action 0 that P0
--                 fails afterwards; that one; those behind it; all
use Rattle.std.specs.Prelude.{List, [], ◌∷◌, ◌++◌, ℕ}

abbrev pub fade_first_zero : List ℕ
fade_first_zero = 0x90030000 ∷ 0x80000000 ∷ 0xA0000000 ∷ 0xA0000000 ∷ []

-- its lemmas, in four parts: that P0 fails at the start
abbrev pub house_start : List ℕ
house_start = 0x9FF20000 ∷ 0x80000000 ∷ 0xA0000001 ∷ 0xA0000001 ∷ 0xA0000001 ∷ []

-- those before the one for action 0 that P0 fails afterwards
abbrev pub house_before : List ℕ
house_before =
    0x9FF20001 ∷ 0x80000000 ∷ 0xA0000001 ∷ 0xA0000001 ∷ 0xA0000001
    ∷ 0x90000000 ∷ 0x80000001 ∷ 0xA0000001 ∷ 0xA0000001
    ∷ 0x90010000 ∷ 0x80000001 ∷ 0xA0000001 ∷ 0xA0000001 ∷ 0xA0000001 ∷ []

-- that one
abbrev pub house_fails : List ℕ
house_fails = 0x90020000 ∷ 0x80000000 ∷ 0xA0000001 ∷ 0xA0000001 ∷ []

-- and those behind it
abbrev pub house_behind : List ℕ
house_behind =
    0x90010001 ∷ 0x80000000 ∷ 0xA0000001 ∷ 0xA0000001
    ∷ 0x90020001 ∷ 0x80000001 ∷ 0xA0000001 ∷ 0xA0000001 ∷ 0xA0000001
    ∷ 0x90030001 ∷ 0x80000000 ∷ 0xA0000001 ∷ 0xA0000001
    ∷ 0x90040001 ∷ 0x80000000 ∷ 0xA0000001 ∷ 0xA0000001
    ∷ 0x90100000 ∷ 0x80000002 ∷ 0xA0000001 ∷ 0xA0000001
    ∷ 0x90110000 ∷ 0x80000000 ∷ 0xA0000001 ∷ 0xA0000001
    ∷ 0x90110001 ∷ 0x80000002 ∷ 0xA0000001 ∷ 0xA0000001 ∷ 0xA0000001
    ∷ 0x90120001 ∷ 0x80000000 ∷ 0xA0000001 ∷ 0xA0000001
    ∷ 0x90130000 ∷ 0x80000000 ∷ 0xA0000001 ∷ 0xA0000001
    ∷ 0x90140000 ∷ 0x80000000 ∷ 0xA0000001 ∷ 0xA0000001
    ∷ 0x90220000 ∷ 0x80000000 ∷ 0xA0000001
    ∷ 0x90210001 ∷ 0x80000002 ∷ 0xA0000001 ∷ 0xA0000001
    ∷ 0x90220001 ∷ 0x80008000 ∷ 0xA0000001 ∷ 0xA0000001
    ∷ 0x90230000 ∷ 0x80000000 ∷ 0xA0000001
    ∷ 0x90240000 ∷ 0x80000000 ∷ 0xA0000001
    ∷ 0x90310000 ∷ 0x80000001 ∷ 0xA0000001 ∷ 0xA0000001
    ∷ 0x90320000 ∷ 0x80004000 ∷ 0xA0000001 ∷ 0xA0000001
    ∷ 0x90320001 ∷ 0x80000000 ∷ 0xA0000001
    ∷ 0x90330001 ∷ 0x80000000 ∷ 0xA0000001
    ∷ 0x90340001 ∷ 0x80000000 ∷ 0xA0000001 ∷ []

abbrev pub house_lemmas : List ℕ
house_lemmas = house_start ++ (house_before ++ (house_fails ++ house_behind))
