-- Where the items of a program begin in its words.
--
-- places       — where each of some items begins, by the words of each
-- first_action — the index of a program's first action
use Rattle.std.specs.Prelude.{List, [], ◌∷◌, ◌++◌, ℕ, ◌+◌, length}
use Rattle.words.specs.Words.{INIT, PRED}
use Rattle.grammar.specs.Programs.{Program}
use Rattle.grammar.specs.Encoding.{concat, encode_range, encode_rows}

-- where each of some items begins, the first one at i, by the words of each
module _ {A : Type 0} (e : A → List ℕ) where
  unfoldable pub places : ℕ → List A → List ℕ
  places i [] = []
  places i (a ∷ rest) = i ∷ places (i + length (e a)) rest

-- the index of a program's first action
abbrev pub first_action : Program → ℕ
first_action p = length (concat encode_range p.ranges ++ encode_rows INIT p.start ++ encode_rows PRED p.predicates)
