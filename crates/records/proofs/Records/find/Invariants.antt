-- Every node from `left` on, but for the one that is tried, has another word. The measure is what is left.
use Prim.Native.Nat.{ℕ, ◌≤◌, ◌<◌}
use mathlib.Core.Path.{◌≡◌}
use lib.ListN.{get_or}
use Rattle.records.specs.Records.{record_place}
use Rattle.records.proofs.Records.find.Given as goal

abbrev pub invariant-loop-i : goal.invariant-loop-i
invariant-loop-i l =
    (l.i < l.n) × (l.left ≤ l.n) × ((k : ℕ) → l.left ≤ k → k < l.n → (k ≡ l.i → ⊥) → get_or l.self.list.now (record_place l.self.actions k) 0 ≡ l.w → ⊥)

abbrev pub decreases-loop-i : goal.decreases-loop-i
decreases-loop-i l = l.left
