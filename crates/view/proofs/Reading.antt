-- Reading a graph list:
--     size_is              the length of n records, from where the second one begins
--     word-there           where nothing is refused before the edge word, it decides
use mathlib.Core.Path.{◌≡◌, ap}
use mathlib.Core.List.{List}
use Prim.Native.Nat.{ℕ, ◌*◌, ◌<◌, ◌≤◌}
use native.Mathlib.Omega.{arith}
use borrow.Author.Tests.{le-ltb, lt-leb}
use lib.ListN.{length, get_or}
use Rattle.records.specs.Records.{most_nodes, stride, record_place, edge_place}
use Rattle.view.specs.Views.{edge_of, viewed}

pub size_is : (n a s : ℕ) → s ≡ record_place a 1 → n * s ≡ record_place a n
size_is n a s e = let one : s ≡ stride a = omega (arith, e) in ap (λ (x : ℕ). n * x) one

module _ (l : List ℕ) (n a k j : ℕ) (long : record_place a n ≤ length l) (hk : k < n) (hj : j < a) where
  pub word-there : n ≤ most_nodes → a ≤ 16 → viewed l n a k j ≡ edge_of (get_or l (edge_place a k j) 0) (edge_place a k j)
  unfolding viewed
  word-there few ha = simp (le-ltb most_nodes n few, le-ltb 16 a ha, le-ltb (length l) (record_place a n) long, lt-leb n k hk, lt-leb a j hj)
