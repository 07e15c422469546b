-- House, worked by computation: three nodes, and ten edges that lead to a node. So it is without the lemmas for what its actions keep.
use mathlib.Core.Path.{◌≡◌, refl}
use mathlib.Core.List.{List, [], ◌∷◌, ◌++◌, map}
use Prim.Native.Nat.{ℕ}
use Rattle.gather.specs.Gathering.{Claim, entry_of, gather_from}
use Rattle.search.specs.Search.{To, None, Root, From, Graph, Done, links_in, links, turns, visited, explored}
use Rattle.graph.specs.Graph.{graph_of}

-- P0 is "level at least 1", P1 "house at least 1"; in premises P0 and P1 are 1 and 2 where true, 0x4000 and 0x8000 where false
changed : List Claim
changed =
    record { source = 255; goal = 2; index = 0; premises = 0 }
    ∷ record { source = 255; goal = 2; index = 1; premises = 0 }
    ∷ record { source = 0; goal = 0; index = 0; premises = 1 }
    ∷ record { source = 0; goal = 1; index = 1; premises = 0 }
    ∷ record { source = 1; goal = 0; index = 0; premises = 2 }
    ∷ record { source = 1; goal = 1; index = 0; premises = 0 }
    ∷ record { source = 2; goal = 2; index = 0; premises = 0 }
    ∷ record { source = 3; goal = 2; index = 1; premises = 0 }
    ∷ []

-- what the actions leave as it was: 0 and 3 leave P0 untouched, 1 and 2 P1
unchanged : List Claim
unchanged =
    record { source = 0; goal = 2; index = 0; premises = 0 }
    ∷ record { source = 1; goal = 2; index = 1; premises = 0 }
    ∷ record { source = 2; goal = 1; index = 1; premises = 2 }
    ∷ record { source = 2; goal = 2; index = 1; premises = 0x8000 }
    ∷ record { source = 3; goal = 1; index = 0; premises = 1 }
    ∷ record { source = 3; goal = 2; index = 0; premises = 0x4000 }
    ∷ []

masks : List ℕ
masks = 0x4001 ∷ 0x8002 ∷ 0x8002 ∷ 0x4001 ∷ []

house-graph : Graph
house-graph = record {
  words = 0x8000C000 ∷ 0x80004002 ∷ 0x80008001 ∷ [];
  origins = Root ∷ From 0 0 ∷ From 0 1 ∷ [];
  distances = 0 ∷ 1 ∷ 1 ∷ [];
  edges = To 1 ∷ To 2 ∷ To 0 ∷ To 0 ∷ To 1 ∷ None ∷ To 1 ∷ To 0 ∷ None ∷ To 2 ∷ To 0 ∷ To 2 ∷ [];
}

-- with the lemmas for what stays, and without them
explores_house : graph_of (map entry_of (changed ++ unchanged)) [] 4 ≡ Done house-graph
unfolding changed unchanged house-graph explored visited turns gather_from
explores_house = refl

keeps-house : graph_of (map entry_of changed) masks 4 ≡ Done house-graph
unfolding changed masks house-graph explored visited turns gather_from
keeps-house = refl

ten_edges : links house-graph ≡ 10
unfolding house-graph links_in
ten_edges = refl
