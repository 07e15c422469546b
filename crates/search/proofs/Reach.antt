-- What the exploration is compared with, and nothing of it: reached words, lists of distinct words.
use Prim.Native.Nat.{ℕ, ◌<◌}
use mathlib.Core.Path.{◌≡◌}
use mathlib.Core.List.{List}
use lib.ListN.{length, get_or}
use Rattle.search.specs.Search.{Answer, To}

-- the start is reached, and so is each successor of a reached word
module _ (start : Answer) (next : ℕ → ℕ → Answer) (a : ℕ) where
  pub data Reach : ℕ → Type 0 where
    first : {w : ℕ} → start ≡ To w → Reach w
    onward : {w v j : ℕ} → Reach w → j < a → next w j ≡ To v → Reach v

abbrev pub Distinct : List ℕ → Type 0
Distinct ws = (i j : ℕ) → i < length ws → j < length ws → get_or ws i 0 ≡ get_or ws j 0 → i ≡ j

abbrev pub AllOf : (ℕ → Type 0) → List ℕ → Type 0
AllOf P ws = (i : ℕ) → i < length ws → P (get_or ws i 0)

pub record Many (P : ℕ → Type 0) (n : ℕ) : Type 0 where
  pub list : List ℕ
  pub size : length list ≡ n
  pub distinct : Distinct list
  pub all : AllOf P list
