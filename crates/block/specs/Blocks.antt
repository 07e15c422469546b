-- What the accepted lemmas show at 64 nodes at once. A list of nodes is a list of their literals; past its end stand nodes with none.
--
-- table_words — the words of a table: 64 places for each of 16 actions
-- Columns     — bit i of the word c is bit c of node i
-- Under       — node i has a bit in each word of a set of words, numbered from `at` on
-- Meets       — a word with a bit for each such node
-- Row         — a table in which p words from `at` on are the columns of a mask's literals
-- Rows        — so for the masks of the first a actions
-- after       — what is known after an action at a node, by its mask and the entries
-- Block       — the word at action * 64 + place has a bit for each node: what is known there after the action has that place
-- half_of     — the literals in the low or the high half of a word
-- Words       — the words after the nodes by actions 2h and 2h + 1, where they have successors, in the halves of a word
-- none_of     — what is gathered gives no successor: the test of successor_of
-- digit       — a test as a bit
-- Gone        — a word with a bit for each node that has no successor by an action
use Rattle.std.specs.Prelude.{◌≡◌, ◌↔◌, List, ℕ, zero, suc, ◌+◌, ◌*◌, ◌/◌, ◌%◌, ◌^◌, ◌<◌, ◌≤◌, Bool, true, false, not, ◌||◌, length, get_or}
use Rattle.sets.specs.Sets.{bit_of, Member, apart}
use Rattle.gather.specs.Gathering.{known, blocked}
use Rattle.gather.specs.declared.Entry.{Entry}

abbrev pub table_words : ℕ
table_words = 1024

pub record Columns (nodes cols : List ℕ) : Type 0 where
  pub long : length cols ≡ 64
  pub same : (i c : ℕ) → i < 64 → c < 64 → bit_of i (get_or cols c 0) ≡ bit_of c (get_or nodes i 0)

abbrev pub Under : List ℕ → ℕ → ℕ → ℕ → Type 0
Under words at i p = (c : ℕ) → Member c p → Member i (get_or words (at + c) 0)

abbrev pub Meets : List ℕ → ℕ → ℕ → ℕ → Type 0
Meets words at p q = (i : ℕ) → i < 64 → Member i q ↔ Under words at i p

pub record Row (t : List ℕ) (at m : ℕ) (cols : List ℕ) (p : ℕ) (t' : List ℕ) : Type 0 where
  pub long : length t' ≡ length t
  pub inside : (q : ℕ) → q < p → get_or t' (at + q) 0 ≡ bit_of q m * get_or cols q 0
  pub before : (n : ℕ) → n < at → get_or t' n 0 ≡ get_or t n 0

pub record Rows (kept cols : List ℕ) (a : ℕ) (t : List ℕ) : Type 0 where
  pub long : table_words ≤ length t
  pub same : (k : ℕ) → k < a * 64 → get_or t k 0 ≡ bit_of (k % 64) (get_or kept (k / 64) 0) * get_or cols (k % 64) 0

abbrev pub after : List ℕ → ℕ → ℕ → List Entry → ℕ
after kept j n es = known (get_or kept j 0) j n es

pub record Block (kept nodes : List ℕ) (es : List Entry) (t : List ℕ) : Type 0 where
  pub long : table_words ≤ length t
  pub same : (i k : ℕ) → i < 64 → k < table_words → bit_of i (get_or t k 0) ≡ bit_of (k % 64) (after kept (k / 64) (get_or nodes i 0) es)

abbrev pub half_of : ℕ → ℕ → ℕ
half_of w zero = w % 2 ^ 28
half_of w (suc e) = w / 2 ^ 32 % 2 ^ 28

pub record Words (h : ℕ) (kept nodes : List ℕ) (es : List Entry) (r : List ℕ) : Type 0 where
  pub long : length r ≡ 64
  pub same : (i e : ℕ) → i < 64 → e < 2 → half_of (get_or r i 0) e ≡ after kept (2 * h + e) (get_or nodes i 0) es % 2 ^ 28

abbrev pub none_of : ℕ → Bool
none_of g = blocked g || not (apart (g % 2 ^ 28))

abbrev pub digit : Bool → ℕ
digit true = 1
digit false = 0

pub record Gone (j : ℕ) (kept nodes : List ℕ) (es : List Entry) (w : ℕ) : Type 0 where
  pub same : (i : ℕ) → i < 64 → bit_of i w ≡ digit (none_of (after kept j (get_or nodes i 0) es))
