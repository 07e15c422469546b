use mathlib.Core.Path.{◌≡◌, refl}
use mathlib.Core.List.{List, [], ◌∷◌}
use Prim.Native.Nat.{ℕ}
use Rattle.grammar.specs.Reading.{Read, got, refused, due, one, times, many}
use Rattle.grammar.specs.Grammar.{program, ranges, rows, end, coefs, row, assignment, sets, action}
use Rattle.grammar.specs.Programs.{Program}
use Rattle.grammar.specs.Encoding.{encode, concat, encode_coefs}

fade : List ℕ
fade =
    0x100003E8 ∷ 0x40000000 ∷ 0x50000000 ∷ 0x60000011 ∷ 0x2FFFFFFB ∷ 0x30000001 ∷ 0x70000000 ∷ 0x2FFFFFFB ∷ 0x30000001 ∷ 0x60000011
    ∷ 0x200003E3 ∷ 0x3000FFFF ∷ 0x70000000 ∷ 0x20000005 ∷ 0x30000001 ∷ 0xF0000000 ∷ []

abbrev back : Read Program → List ℕ
back (got p ws i) = encode p
back (refused r) = []

same : back (program fade 0) ≡ fade
unfolding fade program ranges rows end coefs row assignment sets action due one times many encode concat encode_coefs
same = refl
