-- What a lemma says of all whole numbers in the ranges. Nothing here knows of multipliers or sums.
--
-- happens — the source may happen at a state: the action is enabled, or the state meets the start rows
-- Says    — what a goal says of the state afterwards
-- True    — what a lemma says
use Rattle.std.specs.Prelude.{◌≡◌, Bool, true, false, List, ℕ, ℤ, pos, ◌≤ℤ◌, get_or}
use Rattle.grammar.specs.Programs.{Program}
use Rattle.rows.specs.Rows.{holds}
use Rattle.runs.specs.Runs.{all_hold, Inside, new_state, action_of, meets, predicate}
use Rattle.lemmas.specs.Lemmas.{Goal, CannotHappen, HoldsAfter, FailsAfter, NotBelow, NotAbove, Lemma, source_rows, range_at}

abbrev pub happens : Program → ℕ → List ℤ → Bool
happens p source s = all_hold (source_rows p source) s

abbrev pub Says : Program → Goal → ℕ → List ℤ → Type 0
Says p CannotHappen i t = ⊥
Says p HoldsAfter i t = holds (predicate p i) t ≡ true
Says p FailsAfter i t = holds (predicate p i) t ≡ false
Says p NotBelow i t = (range_at p i).low ≤ℤ get_or t i (pos 0)
Says p NotAbove i t = get_or t i (pos 0) ≤ℤ (range_at p i).high

-- Of every state in the ranges that meets the premises and at which the source may happen, the goal is true of what the assignments give.
abbrev pub True : Program → Lemma → Type 0
True p l = (s : List ℤ) → Inside p s → meets p l.premises s ≡ true → happens p l.source s ≡ true
    → Says p l.goal l.index (new_state (action_of p l.source) s)
