-- `acceptance::lemma_sum` meets its contract: the three parts one behind the other.
use native.Mathlib.Omega.{arith}
use Rattle.runs.specs.Values.{premise_rows}
use Rattle.acceptance.specs.Adding.{goal_rows}
use Rattle.acceptance.proofs.Laws.{GoalAdded, goal-added, goal-none, goal-fits, nothing, nothing-room, second-room, third-room, fine-small, whole_sum}
use Rattle.acceptance.proofs.lemma_sum.Goals as goal
use Rattle.acceptance.proofs.lemma_sum.Goals.{Joined-goal, in-Some, in-None}

pub add_row-s-requires : goal.add_row-s-requires
add_row-s-requires c =
    let a = c.args in
    let some = rw c.in-Some.is at c.requires.after in
    let room = rw c.in-Some.is at c.requires.room.2 in
    (omega arith, goal-fits a.mults.now nothing c.in-Some.q nothing-room some)

first : (c : Joined-goal) → GoalAdded c.args.mults.now c.args.goal c.match-goal.s
first c =
    let a = c.args in
    elim c.match-goal.branch [
      | in-Some w ↦ rw (w.s-is, w.add_row-s.ensures, w.in-Some.is) (goal-added a.mults.now w.in-Some.q (rw w.in-Some.is at c.requires.after))
      | in-None w ↦ rw (w.s-is, w.in-None.is) (goal-none a.mults.now)
    ]

pub add_premises-requires : goal.add_premises-requires
add_premises-requires c =
    let a = c.args in
    let s = first (goal.at.add_premises-requires c).Joined-goal in
    let room = second-room a.mults.now (goal_rows a.goal) (premise_rows 0 a.preds.now a.set) a.rows.now c.requires.room.2 s.is in
    record { room = (c.requires.room.0, room); fine = s.fine; by_index = c.requires.by_index.0 }

pub add_rows-requires : goal.add_rows-requires
add_rows-requires c =
    let a = c.args in
    let s = first (goal.at.add_rows-requires c).Joined-goal in
    let room = third-room a.mults.now (goal_rows a.goal) (premise_rows 0 a.preds.now a.set) a.rows.now c.requires.room.2 s.is c.add_premises.ensures.0 in
    record { room = (c.requires.room.1, room); fine = c.add_premises.ensures.1; by_index = c.requires.by_index.1 }

pub returns : goal.returns
returns c =
    let a = c.args in
    let s = first (goal.at.returns c).Joined-goal in
    (whole_sum a.mults.now (goal_rows a.goal) (premise_rows 0 a.preds.now a.set) a.rows.now c.requires.room.2 s.is c.add_premises.ensures.0 c.add_rows.ensures.0, fine-small c.add_rows.ensures.1)
