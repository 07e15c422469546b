-- One element more at the end of a list, and one node more of a graph.
use Prim.Native.Nat.{ℕ, ◌+◌, ◌<◌, ◌≤◌}
use native.Mathlib.Omega.{arith}
use mathlib.Core.Path.{◌≡◌}
use mathlib.Core.List.{List, [], ◌∷◌, ◌++◌}
use borrow.Author.Count.{below_more}
use lib.ListN.{length, length-append, get_or-append}
use Rattle.search.specs.Search.{Origin, Root, Graph, stored, count, node_word, origin}

pub len_more {ℓ} : {A : Type ℓ} (xs : List A) (y : A) → length (xs ++ (y ∷ [])) ≡ length xs + 1
len_more xs y = length-append xs (y ∷ [])

-- what holds of each element, and of one more, as a place of the longer list says it
pub more {ℓ} : {A : Type ℓ} (P : ℕ → Type 0) (xs : List A) (y : A) → ((i : ℕ) → i < length xs → P i) → P (length xs) → (i : ℕ) → i < length (xs ++ (y ∷ [])) → P i
more P xs y old new i h = below_more P (length xs) old new i (rw len_more at h)

-- h has g's nodes, and perhaps more
pub record Grown (g h : Graph) : Type 0 where
  pub longer : count g ≤ count h
  pub words-kept : (i : ℕ) → i < count g → node_word h i ≡ node_word g i
  pub origins-kept : (i : ℕ) → i < count g → origin h i ≡ origin g i

pub stored_grown : (g : Graph) (o : Origin) (w : ℕ) → length g.origins ≡ count g → Grown g (stored g o w)
stored_grown g o w same = record {
  longer = omega (arith, len_more g.words w);
  words-kept = λ i h. get_or-append g.words (w ∷ []) 0 i h;
  origins-kept = λ i h. get_or-append g.origins (o ∷ []) Root i (omega arith);
}
