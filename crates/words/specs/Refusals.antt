-- The table of refusals: each one's number, and the number that is returned with it.
--
-- number — the refusal's number
-- value  — the number returned with it
use Rattle.std.specs.Prelude.{ℕ}
use Rattle.words.specs.Limits.{most_nodes}
use Rattle.words.specs.declared.Refusal.{Refusal}
use Rattle.words.specs.declared.Refusal.TheVariants.{Short, Word, Limit, Value, Lemma, Lemmas, Nodes, Absent, Length, State, Sum, Findings}

abbrev pub number : Refusal → ℕ
number (Short n) = 1
number (Word n) = 2
number (Limit n) = 3
number (Value n) = 4
number (Lemma n) = 5
number (Lemmas n) = 6
number Nodes = 7
number (Absent n) = 8
number (Length n) = 9
number (State n) = 10
number (Sum n) = 11
number (Findings n) = 12

abbrev pub value : Refusal → ℕ
value (Short n) = n
value (Word n) = n
value (Limit n) = n
value (Value n) = n
value (Lemma n) = n
value (Lemmas n) = n
value Nodes = most_nodes
value (Absent n) = n
value (Length n) = n
value (State n) = n
value (Sum n) = n
value (Findings n) = n
