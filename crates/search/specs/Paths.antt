-- Walks in a graph, and the path to a node along the origins.
--
-- Walk      — a list of actions, of which there are a, that leads along the edges from one node to another
-- hop, back — the actions from node 0 to a node along the origins, the last one first; the second argument is fuel, of which k is enough
-- path      — the same in the order in which they are taken
use Rattle.std.specs.Prelude.{ℕ, zero, suc, ◌<◌, ◌≡◌, List, [], ◌∷◌, reverse, get_or}
use Rattle.search.specs.Search.{To, Origin, Root, From, Graph, count, edge}

pub data Walk (a : ℕ) (g : Graph) : ℕ → List ℕ → ℕ → Type 0 where
  stand : {k : ℕ} → k < count g → Walk a g k [] k
  go : {k m n j : ℕ} {js : List ℕ} → j < a → edge a g k j ≡ To m → Walk a g m js n → Walk a g k (j ∷ js) n

-- ---- the origins, followed back
abbrev pub hop : Origin → (ℕ → List ℕ) → List ℕ
hop Root rest = []
hop (From p j) rest = j ∷ rest p

unfoldable pub back : List Origin → ℕ → ℕ → List ℕ
back os zero k = []
back os (suc f) k = hop (get_or os k Root) (back os f)

abbrev pub path : List Origin → ℕ → ℕ → List ℕ
path os f k = reverse (back os f k)
