-- Every node from `left` on, but for the one that is tried, has another word. The measure is what is left.
use Prim.Native.Nat.{ℕ, ◌≤◌, ◌<◌, ◌+◌}
use mathlib.Core.List.{List}
use native.Mathlib.Omega.{arith}
use mathlib.Core.Path.{◌≡◌, refl}
use Rattle.std.specs.Prelude.{Option, Some}
use lib.ListN.{get_or}
use Rattle.records.specs.Records.{graph_words, stride, record_place}
use Rattle.records.specs.Steps.{column, Sought}
use Rattle.records.proofs.Places.{rooms, tried, none_found, found}
use Rattle.records.proofs.Records.find.Goals as goal
use Rattle.records.proofs.Records.find.Goals.{At-loop-i, then-hint-n, else-hint-n}

pub loop-i-init : goal.loop-i-init
loop-i-init c =
    let first : c.if-hint-n.i < c.args.n = elim c.if-hint-n.branch [ then-hint-n w ↦ omega arith | else-hint-n w ↦ omega arith ] in
    (first, omega arith, λ k ge lt. absurd (omega arith))

-- the record of node i
room : (c : At-loop-i) → let a = c.before.before.before.before.before.before.args in
    (record_place a.self.actions c.loop-i.i + stride a.self.actions ≤ record_place a.self.actions a.n) × (record_place a.self.actions a.n ≤ graph_words)
room c = let a = c.before.before.before.before.before.before.args in rooms a.n c.loop-i.i a.self.actions (omega arith) (omega arith) (omega arith)

pub overflow_mul-i : goal.overflow_mul-i
overflow_mul-i c = omega (arith, room (goal.at.overflow_mul-i c).At-loop-i)

pub offset_bounds-self-i : goal.offset_bounds-self-i
offset_bounds-self-i c = omega (arith, room (goal.at.offset_bounds-self-i c).At-loop-i)

pub bounds-self-i : goal.bounds-self-i
bounds-self-i c = omega (arith, room (goal.at.bounds-self-i c).At-loop-i)

pub loop-i-preserved : goal.loop-i-preserved
loop-i-preserved c =
    let a = c.args in
    (omega arith, omega arith, λ k ge lt ne. tried (λ k. get_or a.self.list.now (record_place a.self.actions k) 0 ≡ a.w) a.n c.loop-i.i c.loop-i.left c.loop-i.invariant.2 c.if-self-i.false k (omega arith) lt)

-- a node that has the word is the answer
is_found : (l : List ℕ) (a n w i : ℕ) (r : Option ℕ) → r ≡ Some i → i < n → get_or l (record_place a i) 0 ≡ w → Sought (column l a 0 n) w n r
is_found l a n w i r e lt at = rw e (lt, found l a n w i lt at)

pub returns-then-self-i : goal.returns-then-self-i
returns-then-self-i c =
    let a = c.args in
    is_found a.self.list.now a.self.actions a.n a.w c.loop-i.i _ refl (omega arith) c.if-self-i.true

pub returns-then-left-eq0 : goal.returns-then-left-eq0
returns-then-left-eq0 c =
    let a = c.args in
    let none = tried (λ k. get_or a.self.list.now (record_place a.self.actions k) 0 ≡ a.w) a.n c.loop-i.i c.loop-i.left c.loop-i.invariant.2 c.if-self-i.false in
    (λ firsts. none_found a.self.list.now a.self.actions a.n a.w (λ k lt. none k (omega arith) lt))
