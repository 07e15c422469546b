-- The successors of 64 nodes by all actions.
--
-- scratch_words — the room of a table and of the words after the nodes by all actions
-- Stored        — a list with the first k words of another written from `at` on
-- Ready         — for the first 2 * h actions: the words after the nodes, those by actions 2g and 2g + 1 in the halves of the 64 words from 64 * g on behind
--          the table, and the nodes that have no successor
-- Fit — a successor is a set of 28 digits
use Rattle.std.specs.Prelude.{◌≡◌, Option, None, Some, List, ℕ, ◌+◌, ◌*◌, ◌%◌, ◌^◌, ◌<◌, length, get_or}
use Rattle.gather.specs.declared.Entry.{Entry}
use Rattle.block.specs.Blocks.{table_words, after, half_of, Gone}

abbrev pub scratch_words : ℕ
scratch_words = table_words + 512

pub record Stored (l : List ℕ) (at : ℕ) (w : List ℕ) (k : ℕ) (l' : List ℕ) : Type 0 where
  pub long : length l' ≡ length l
  pub inside : (i : ℕ) → i < k → get_or l' (at + i) 0 ≡ get_or w i 0
  pub before : (n : ℕ) → n < at → get_or l' n 0 ≡ get_or l n 0

pub record Ready (kept nodes : List ℕ) (es : List Entry) (h : ℕ) (scratch gone : List ℕ) : Type 0 where
  pub long : length gone ≡ 16
  pub words : (g i e : ℕ) → g < h → i < 64 → e < 2
      → half_of (get_or scratch (table_words + g * 64 + i) 0) e ≡ after kept (2 * g + e) (get_or nodes i 0) es % 2 ^ 28
  pub none : (j : ℕ) → j < 2 * h → Gone j kept nodes es (get_or gone j 0)

abbrev pub Fit : Option ℕ → Type 0
Fit None = Unit {0}
Fit (Some s) = s < 2 ^ 28
