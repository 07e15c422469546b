-- Which lemma of a list is the first whose sum leaves 64 bits.
--
-- first_off — the lowest lemma whose sum leaves signed 64 bits; the number of lemmas if there is none
use Rattle.std.specs.Prelude.{cond, List, [], ◌∷◌, ℕ, suc}
use Rattle.rows.specs.Rows.{in64}
use Rattle.grammar.specs.Programs.{Program}
use Rattle.lemmas.specs.Lemmas.{Lemma, largest_of}

unfoldable pub first_off : Program → List Lemma → ℕ
first_off p [] = 0
first_off p (l ∷ ls) = cond (in64 (largest_of p l)) (suc (first_off p ls)) 0
