-- The worked shows: their words, with Fade's lemmas, and the programs that the words are.
--
-- fade, house, incident, nine_times             — the logic in words
-- fade_first, fade_others, fade_lemmas          — Fade's lemmas: the first, those behind it, all
-- row2, level                                   — a row of the first two variables; the range 0..1000
-- fade_program, house_program, incident_program — the logic as a value
use Rattle.std.specs.Prelude.{List, [], ◌∷◌, ◌++◌, ℕ, ℤ, pos, negsuc}
use Rattle.rows.specs.declared.Row.{Row}
use Rattle.rows.specs.declared.Range.{Range}
use Rattle.grammar.specs.Programs.{Program}

-- Fade: level 0..1000; action 0 takes 5 off if the level is at least 5; action 1 adds 5 if at most 995.
abbrev pub fade : List ℕ
fade =
    0x100003E8 ∷ 0x40000000 ∷ 0x50000000
    ∷ 0x60000011 ∷ 0x2FFFFFFB ∷ 0x30000001 ∷ 0x70000000 ∷ 0x2FFFFFFB ∷ 0x30000001
    ∷ 0x60000011 ∷ 0x200003E3 ∷ 0x3000FFFF ∷ 0x70000000 ∷ 0x20000005 ∷ 0x30000001
    ∷ 0xF0000000 ∷ []

-- its first lemma: action 0 leaves the level at least at its low end
abbrev pub fade_first : List ℕ
fade_first = 0x90030000 ∷ 0x80000000 ∷ 0xA0000001 ∷ 0xA0000001 ∷ []

abbrev pub fade_others : List ℕ
fade_others =
    0x90040000 ∷ 0x80000000 ∷ 0xA0000001 ∷ 0xA0000000
    ∷ 0x90130000 ∷ 0x80000000 ∷ 0xA0000001 ∷ 0xA0000000
    ∷ 0x90140000 ∷ 0x80000000 ∷ 0xA0000001 ∷ 0xA0000001 ∷ []

abbrev pub fade_lemmas : List ℕ
fade_lemmas = fade_first ++ fade_others

-- House: level 0..1000, house 0..1, both 0 at the start. P0 level at least 1, P1 house at least 1. Actions: 0 if level is 0, house 1;
-- 1 if house is 0, level 500; 2 level 0; 3 house 0. Forbidden 80000003.
abbrev pub house : List ℕ
house =
    0x100003E8 ∷ 0x10000001
    ∷ 0x40000002 ∷ 0x20000000 ∷ 0x3000FFFF ∷ 0x20000000 ∷ 0x3100FFFF
    ∷ 0x50000002 ∷ 0x2FFFFFFF ∷ 0x30000001 ∷ 0x2FFFFFFF ∷ 0x31000001
    ∷ 0x60000011 ∷ 0x20000000 ∷ 0x3000FFFF ∷ 0x70000001 ∷ 0x20000001
    ∷ 0x60000011 ∷ 0x20000000 ∷ 0x3100FFFF ∷ 0x70000000 ∷ 0x200001F4
    ∷ 0x60000001 ∷ 0x70000000 ∷ 0x20000000
    ∷ 0x60000001 ∷ 0x70000001 ∷ 0x20000000
    ∷ 0x80000003
    ∷ 0xF0000000 ∷ []

-- The macro of the incident: a level of 5, and an action that takes 10 off with no guard.
abbrev pub incident : List ℕ
incident =
    0x100003E8
    ∷ 0x40000002 ∷ 0x2FFFFFFB ∷ 0x30000001 ∷ 0x20000005 ∷ 0x3000FFFF
    ∷ 0x50000000
    ∷ 0x60000001 ∷ 0x70000000 ∷ 0x2FFFFFF6 ∷ 0x30000001
    ∷ 0xF0000000 ∷ []

-- Two variables, -8192..8191; the action gives the first 4 times itself and 5 times the second.
abbrev pub nine_times : List ℕ
nine_times =
    0x18001FFF ∷ 0x18001FFF
    ∷ 0x40000000 ∷ 0x50000000
    ∷ 0x60000001 ∷ 0x70000000 ∷ 0x20000000 ∷ 0x30000004 ∷ 0x31000005
    ∷ 0xF0000000 ∷ []

-- ---- as values
-- a row of the first two variables
abbrev pub row2 : ℤ → ℤ → ℤ → Row
row2 a b k = record { coef = a ∷ b ∷ pos 0 ∷ pos 0 ∷ pos 0 ∷ pos 0 ∷ pos 0 ∷ pos 0 ∷ []; constant = k }

abbrev pub level : Range
level = record { low = pos 0; high = pos 1000 }

abbrev pub fade_program : Program
fade_program =
    record {
      ranges = level ∷ [];
      start = [];
      predicates = [];
      actions =
          record { guards = row2 (pos 1) (pos 0) (negsuc 4) ∷ []; sets = record { variable = 0; row = row2 (pos 1) (pos 0) (negsuc 4) } ∷ [] }
          ∷ record { guards = row2 (negsuc 0) (pos 0) (pos 995) ∷ []; sets = record { variable = 0; row = row2 (pos 1) (pos 0) (pos 5) } ∷ [] }
          ∷ [];
      forbidden = [];
    }

-- both 0 at the start
abbrev pub house_program : Program
house_program =
    record {
      ranges = level ∷ record { low = pos 0; high = pos 1 } ∷ [];
      start = row2 (negsuc 0) (pos 0) (pos 0) ∷ row2 (pos 0) (negsuc 0) (pos 0) ∷ [];
      predicates = row2 (pos 1) (pos 0) (negsuc 0) ∷ row2 (pos 0) (pos 1) (negsuc 0) ∷ [];
      actions =
          record { guards = row2 (negsuc 0) (pos 0) (pos 0) ∷ []; sets = record { variable = 1; row = row2 (pos 0) (pos 0) (pos 1) } ∷ [] }
          ∷ record { guards = row2 (pos 0) (negsuc 0) (pos 0) ∷ []; sets = record { variable = 0; row = row2 (pos 0) (pos 0) (pos 500) } ∷ [] }
          ∷ record { guards = []; sets = record { variable = 0; row = row2 (pos 0) (pos 0) (pos 0) } ∷ [] }
          ∷ record { guards = []; sets = record { variable = 1; row = row2 (pos 0) (pos 0) (pos 0) } ∷ [] }
          ∷ [];
      forbidden = record { 0 = 3 } ∷ [];
    }

abbrev pub incident_program : Program
incident_program =
    record {
      ranges = level ∷ [];
      start = row2 (pos 1) (pos 0) (negsuc 4) ∷ row2 (negsuc 0) (pos 0) (pos 5) ∷ [];
      predicates = [];
      actions = record { guards = []; sets = record { variable = 0; row = row2 (pos 1) (pos 0) (negsuc 9) } ∷ [] } ∷ [];
      forbidden = [];
    }
