use mathlib.Core.Path.{◌≡◌, ◌∙◌}
use Prim.Native.Nat.{◌+◌}
use native.Mathlib.Omega.{arith}
use borrow.Author.Tests.{lt-ltb, le-ltb}
use lib.IntN.{pos}
use mir.Syntax.{w64}
use mir.Val.{to_z}
use mir.Facts.{to_z_pos, to_z-of_z}
use Rattle.integers.proofs.Int.{num, ◌⊕◌, ⊖, fitting}
use Rattle.words.proofs.signed_by.Goals as goal
use Rattle.words.proofs.signed_by.Goals.{Start}

-- both casts keep the number
same-n : (c : Start) → to_z w64 c.args.n ≡ pos c.args.n
same-n c = to_z_pos w64 (omega arith)

same_whole : (c : Start) → to_z w64 (c.args.half + c.args.half) ≡ pos (c.args.half + c.args.half)
same_whole c = to_z_pos w64 (omega arith)

pub overflow_sub-result : goal.overflow_sub-result
overflow_sub-result c =
    let s = c.args in
    rw (same-n (goal.at.overflow_sub-result c).Start, same_whole (goal.at.overflow_sub-result c).Start) (fitting w64 (num s.n ⊕ ⊖ (num (s.half + s.half))) (omega arith) (omega arith))

pub returns-then-n-half : goal.returns-then-n-half
returns-then-n-half c = same-n (goal.at.returns-then-n-half c).Start ∙ rw (lt-ltb _ _ c.if-n-half.true)

pub returns-else-n-half : goal.returns-else-n-half
returns-else-n-half c =
    to_z-of_z (overflow_sub-result c) ∙ rw (same-n (goal.at.returns-else-n-half c).Start, same_whole (goal.at.returns-else-n-half c).Start, le-ltb _ _ c.if-n-half.false)
