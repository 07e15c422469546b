-- The literals in the payload of a SETS word: known-false predicates in bits 27..14 (bit 14 is predicate 0), known-true ones in 13..0.
--
-- Literal      — B j, or not B j
-- predicate_of — the predicate j of either
-- has          — a bit of a set is one
-- literal_if   — a literal, where a test holds
-- literals_in  — the literals of a set, by rising predicate
-- set_of       — the set of some literals
use Rattle.std.specs.Prelude.{Bool, cond, List, [], ◌∷◌, ◌++◌, ℕ, zero, suc, ◌+◌, ◌/◌, ◌%◌, ◌^◌, eqb}

-- A literal is a predicate or its negation.
pub data Literal : Type 0 where
  B : ℕ → Literal
  NotB : ℕ → Literal

abbrev pub predicate_of : Literal → ℕ
predicate_of (B j) = j
predicate_of (NotB j) = j

abbrev pub has : ℕ → ℕ → Bool
has j set = eqb (set / 2 ^ j % 2) 1

abbrev pub literal_if : Bool → Literal → List Literal
literal_if b l = cond b (l ∷ []) []

-- of the predicates below n
unfoldable pub literals_in : ℕ → ℕ → List Literal
literals_in zero set = []
literals_in (suc n) set = literals_in n set ++ (literal_if (has n set) (B n) ++ literal_if (has (14 + n) set) (NotB n))

unfoldable pub set_of : List Literal → ℕ
set_of [] = 0
set_of (B j ∷ ms) = 2 ^ j + set_of ms
set_of (NotB j ∷ ms) = 2 ^ (14 + j) + set_of ms
