-- The records of a graph in a list of words, one after the other: a node's word, its origin, its distance, and an edge for each action.
--
-- edge_word, origin_word, distance_word — the words of an edge, of an origin and of a distance
-- stride                                — how many words a record has
-- record_place, edge_place              — where a record begins; where an edge of it stands
-- distance_offset                       — where in a record its distance stands
-- edge_row, node_record, records_of     — the first j edge words of node k; the record of node k; the first n records
-- list_of, graph_list                   — the list that a search leaves: the records, then zeros up to its room, then what was there
use Rattle.std.specs.Prelude.{ℕ, zero, suc, ◌+◌, ◌*◌, ◌-◌, List, [], ◌∷◌, ◌++◌, drop, replicate}
use Rattle.words.specs.Words.{word, DISTANCE, ORIGIN, EDGE, no_node, no_parent}
pub use Rattle.words.specs.Limits.{most_nodes, header, graph_words}
use Rattle.search.specs.Search.{Answer, To, None, Origin, Root, From, Graph, Result, Done, Over, count, node_word, origin, distance, edge}

abbrev pub edge_word : Answer → ℕ
edge_word (To m) = word EDGE m
edge_word None = word EDGE no_node

-- the parent in bits 12..4, the action in 3..0
abbrev pub origin_word : Origin → ℕ
origin_word Root = word ORIGIN no_parent
origin_word (From p j) = word ORIGIN (p * 16 + j)

-- Request 6: of kind 0, the payload is the distance.
abbrev pub distance_word : ℕ → ℕ
distance_word d = word DISTANCE d

-- ---- where the words stand
abbrev pub stride : ℕ → ℕ
stride a = header + a

abbrev pub record_place : ℕ → ℕ → ℕ
record_place a k = k * stride a

abbrev pub distance_offset : ℕ
distance_offset = 2

abbrev pub edge_place : ℕ → ℕ → ℕ → ℕ
edge_place a k j = record_place a k + (header + j)

-- ---- the finished list
unfoldable pub edge_row : ℕ → Graph → ℕ → ℕ → List ℕ
edge_row a g k zero = []
edge_row a g k (suc j) = edge_row a g k j ++ (edge_word (edge a g k j) ∷ [])

abbrev pub node_record : ℕ → Graph → ℕ → List ℕ
node_record a g k = node_word g k ∷ origin_word (origin g k) ∷ distance_word (distance g k) ∷ edge_row a g k a

unfoldable pub records_of : ℕ → Graph → ℕ → List ℕ
records_of a g zero = []
records_of a g (suc n) = records_of a g n ++ node_record a g n

-- room is for N words
abbrev pub list_of : ℕ → ℕ → Result → List ℕ → List ℕ
list_of N a (Done g) rest = records_of a g (count g) ++ (replicate (N - record_place a (count g)) 0 ++ rest)
list_of N a Over rest = replicate N 0 ++ rest

abbrev pub graph_list : ℕ → Result → List ℕ → List ℕ
graph_list a r l₀ = list_of graph_words a r (drop graph_words l₀)
