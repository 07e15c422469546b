-- What the making functions of words give. Only contracts of functions within the project cite these.
--
-- literals — a set of literals from its two sets of predicates
use Rattle.std.specs.Prelude.{ℕ, ◌+◌, ◌*◌, ◌%◌, ◌^◌}
use Rattle.words.specs.declared.Literals.{Literals}

-- a set of literals as the payload of SETS: known-false predicates in bits 27..14, known-true ones in 13..0
abbrev pub literals : ℕ → ℕ → Literals
literals known-false known-true = record { 0 = known-false % 2 ^ 14 * 2 ^ 14 + known-true % 2 ^ 14 }
