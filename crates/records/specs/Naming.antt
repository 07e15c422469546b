-- The EDGE words of a list that name a successor.
--
-- names  — a word is one
-- naming — how many of a list are
use Rattle.std.specs.Prelude.{Bool, cond, ◌&&◌, not, List, [], ◌∷◌, ℕ, suc, eqb}
use Rattle.words.specs.Words.{kind_of, payload, EDGE, no_node}

-- all 28 bits ones for none
abbrev pub names : ℕ → Bool
names w = eqb (kind_of w) EDGE && not (eqb (payload w) no_node)

unfoldable pub naming : List ℕ → ℕ
naming [] = 0
naming (w ∷ ws) = cond (names w) (suc (naming ws)) (naming ws)
