-- The breadth-first exploration over any successor function: words are numbers, actions are 0 .. a - 1. Everything computes.
--
-- Answer                          — a successor, or none
-- Origin                          — where a node was first found: at the start, or from a parent by an action
-- Graph                           — four lists that only grow: each node's word, its origin, its distance, and its a edges (node i, action j at i * a + j)
-- Result                          — a graph, or one node too many
-- pick_n, seek                    — the first place of a word among others, or their count
-- count, node_word, origin, distance, edge — the nodes of a graph, and what belongs to one
-- distance_by                     — the distance of a node with this origin, given those of all nodes
-- links_in, links                 — the number of edges that lead to a node
-- empty, stored, linked           — no node; one node more; one edge more
-- placed, rooted, begun, answered — the graph with a word looked up; with node 0; at the start; after one action's turn, given its answer
-- acted, turns                    — after one action's turn; after the first j actions of node k
-- nodeIf, node, visited, explored — after node k's turn; after the first k nodes; after all
use Rattle.std.specs.Prelude.{ℕ, zero, suc, ◌+◌, ◌*◌, Bool, true, false, List, [], ◌∷◌, ◌++◌, length, get_or, eqb, ltb}

pub data Answer : Type 0 where
  To : ℕ → Answer
  None : Answer

pub data Origin : Type 0 where
  Root : Origin
  From : ℕ → ℕ → Origin

pub record Graph : Type 0 where
  pub words : List ℕ
  pub origins : List Origin
  pub distances : List ℕ
  pub edges : List Answer

pub data Result : Type 0 where
  Done : Graph → Result
  Over : Result

abbrev pub pick_n : Bool → ℕ → ℕ → ℕ
pick_n true x y = x
pick_n false x y = y

abbrev pub seek : ℕ → List ℕ → ℕ
seek w [] = 0
seek w (x ∷ xs) = pick_n (eqb x w) 0 (suc (seek w xs))

abbrev pub count : Graph → ℕ
count g = length g.words

abbrev pub node_word : Graph → ℕ → ℕ
node_word g i = get_or g.words i 0

abbrev pub origin : Graph → ℕ → Origin
origin g i = get_or g.origins i Root

abbrev pub distance : Graph → ℕ → ℕ
distance g i = get_or g.distances i 0

-- Request 6: 0 for node 0, and the parent's plus 1 for others.
abbrev pub distance_by : List ℕ → Origin → ℕ
distance_by ds Root = 0
distance_by ds (From p j) = suc (get_or ds p 0)

abbrev pub edge : ℕ → Graph → ℕ → ℕ → Answer
edge a g i j = get_or g.edges (i * a + j) None

unfoldable pub links_in : List Answer → ℕ
links_in [] = 0
links_in (To m ∷ es) = suc (links_in es)
links_in (None ∷ es) = links_in es

abbrev pub links : Graph → ℕ
links g = links_in g.edges

abbrev pub empty : Graph
empty = record { words = []; origins = []; distances = []; edges = [] }

abbrev pub stored : Graph → Origin → ℕ → Graph
stored g o w =
    record { words = g.words ++ (w ∷ []); origins = g.origins ++ (o ∷ []); distances = g.distances ++ (distance_by g.distances o ∷ []); edges = g.edges }

abbrev pub linked : Graph → Answer → Graph
linked g e = record { words = g.words; origins = g.origins; distances = g.distances; edges = g.edges ++ (e ∷ []) }

-- the first test: is w stored already; the second: is there room for one more; a new word is sought to the length, its number
abbrev pub placed : Bool → Bool → Graph → Origin → ℕ → ℕ → Result
placed true room g o w at = Done (linked g (To at))
placed false true g o w at = Done (linked (stored g o w) (To at))
placed false false g o w at = Over

abbrev pub rooted : Bool → ℕ → Result
rooted true w = Done (stored empty Root w)
rooted false w = Over

abbrev pub begun : ℕ → Answer → Result
begun limit (To w) = rooted (ltb 0 limit) w
begun limit None = Done empty

-- one action's turn: its edge, and the node that it leads to if that is new
abbrev pub answered : ℕ → Graph → Origin → Answer → Result
answered limit g o (To w) =
    placed (ltb (seek w g.words) (length g.words)) (ltb (length g.words) limit) g o w (seek w g.words)
answered limit g o None = Done (linked g None)

module _ (next : ℕ → ℕ → Answer) (limit : ℕ) where
  abbrev pub acted : Result → ℕ → ℕ → Result
  acted (Done g) k j = answered limit g (From k j) (next (get_or g.words k 0) j)
  acted Over k j = Over

  -- after the first j actions of node k
  unfoldable pub turns : Graph → ℕ → ℕ → Result
  turns g k zero = Done g
  turns g k (suc j) = acted (turns g k j) k j

module _ (next : ℕ → ℕ → Answer) (a limit : ℕ) where
  abbrev pub nodeIf : Bool → Graph → ℕ → Result
  nodeIf true g k = turns next limit g k a
  nodeIf false g k = Done g

  abbrev pub node : Result → ℕ → Result
  node (Done g) k = nodeIf (ltb k (length g.words)) g k
  node Over k = Over

  -- after the first k nodes
  unfoldable pub visited : Answer → ℕ → Result
  visited start zero = begun limit start
  visited start (suc k) = node (visited start k) k

  unfoldable pub explored : Answer → Result
  explored start = visited start limit
