-- What the steps of a search do to the list that it writes the records in.
--
-- origin_offset — where in a record its origin stands
-- origin_at   — the origin word of node k
-- headed      — a list with a record at a place: its word, the words of its origin and its distance, as yet no edges
-- explored_of — what a search answers: the number of nodes and of edges that lead to a node, or that there are too many nodes
-- column      — word c of each of the first n records
-- hint_count  — how many hints there are: guesses where a word stands
-- Firsts      — each word of a list is first found where it stands
-- Sought      — a place below n is where a word is first found, or none is, if each word of the list is first found where it stands
-- Near        — the distance of each of the first n nodes is at most its number
-- AtNode      — what a turn of node k, of n nodes with a actions, asks: room for all records, and at most e edges so far, of which x lead to a node
-- Kept        — the list, which was l₀, begins with the n nodes of g, has its e edges, of which x lead to a node, no word twice, and behind the n records is l₀
-- Mid         — the same of a result and an answer
-- Fair        — the nodes that an answer counts have not fallen, are at most most_nodes, and are Near; the edges that it counts are at most e
-- Turned      — one step: whatever graph g the list holds before it, the list holds f g after it, and past its room is as it was
-- Filled      — what a search leaves of a list that was l₀, where it does not clear what it left when there are too many nodes
use Rattle.std.specs.Prelude.{Option, Some, None, MatchOption, ℕ, zero, suc, ◌+◌, ◌*◌, ◌<◌, ◌≤◌, ◌≡◌, List, [], ◌∷◌, ◌++◌, map, length, drop, get_or, set}
use Rattle.search.specs.Search.{Graph, Result, Done, Over, count, links, edge, seek}
use Rattle.records.specs.Records.{origin_word, distance_word, edge_word, most_nodes, graph_words, distance_offset, record_place, edge_place, records_of}

abbrev pub origin_offset : ℕ
origin_offset = 1

abbrev pub origin_at : List ℕ → ℕ → ℕ → ℕ
origin_at l a k = get_or l (record_place a k + origin_offset) 0

abbrev pub headed : List ℕ → ℕ → ℕ → ℕ → ℕ → List ℕ
headed l p w o d = set (set (set l p w) (p + origin_offset) o) (p + distance_offset) d

abbrev pub explored_of : Result → Option (ℕ × ℕ)
explored_of (Done g) = Some (count g, links g)
explored_of Over = None

unfoldable pub column : List ℕ → ℕ → ℕ → ℕ → List ℕ
column l a c zero = []
column l a c (suc n) = column l a c n ++ (get_or l (record_place a n + c) 0 ∷ [])

abbrev pub hint_count : ℕ
hint_count = 4096

abbrev pub Firsts : List ℕ → Type 0
Firsts ws = (i : ℕ) → i < length ws → seek (get_or ws i 0) ws ≡ i

abbrev pub Sought : List ℕ → ℕ → ℕ → Option ℕ → Type 0
Sought ws w n r = MatchOption r (Firsts ws → seek w ws ≡ n) (λ at. (at < n) × (Firsts ws → at ≡ seek w ws))

abbrev pub Near : List ℕ → ℕ → ℕ → Type 0
Near l a n = (i : ℕ) → i < n → get_or l (record_place a i + distance_offset) 0 ≤ i

pub record AtNode (l : List ℕ) (n x a k e : ℕ) : Type 0 where
  pub room : graph_words ≤ length l
  pub few : n ≤ most_nodes
  pub narrow : a ≤ 16
  pub there : k < n
  pub bound : x ≤ e
  pub near : Near l a n

pub record Kept (l₀ l : List ℕ) (a n x e : ℕ) (g : Graph) : Type 0 where
  pub size : count g ≡ n
  pub leading : links g ≡ x
  pub width : length g.edges ≡ e
  pub words : column l a 0 n ≡ g.words
  pub apart : Firsts g.words
  pub origins : column l a origin_offset n ≡ map origin_word g.origins
  pub distances : column l a distance_offset n ≡ map distance_word g.distances
  pub edges : (i j : ℕ) → j < a → i * a + j < e → get_or l (edge_place a i j) 0 ≡ edge_word (edge a g i j)
  pub rest : drop (record_place a n) l ≡ drop (record_place a n) l₀

abbrev pub Mid : List ℕ → Result → Option (ℕ × ℕ) → List ℕ → ℕ → ℕ → Type 0
Mid l₀ (Done g) r l a e = (r ≡ Some (count g, links g)) × Kept l₀ l a (count g) (links g) e g
Mid l₀ Over r l a e = r ≡ None

abbrev pub Fair : List ℕ → ℕ → ℕ → ℕ → Option (ℕ × ℕ) → Type 0
Fair l a n e (Some (m, x)) = (n ≤ m) × (m ≤ most_nodes) × (x ≤ e) × Near l a m
Fair l a n e None = Unit {0}

pub record Turned (f : Graph → Result) (l : List ℕ) (a n x e : ℕ) (r : Option (ℕ × ℕ)) (l' : List ℕ) (e' : ℕ) : Type 0 where
  pub fair : Fair l' a n e' r
  pub tail : drop graph_words l' ≡ drop graph_words l
  pub held : (l₀ : List ℕ) (g : Graph) → Kept l₀ l a n x e g → Mid l₀ (f g) r l' a e'

abbrev pub Filled : ℕ → Result → Option (ℕ × ℕ) → List ℕ → List ℕ → Type 0
Filled a (Done g) r l₀ l = (r ≡ Some (count g, links g)) × (l ≡ records_of a g (count g) ++ drop (record_place a (count g)) l₀)
Filled a Over r l₀ l = (r ≡ None) × (drop graph_words l ≡ drop graph_words l₀)
