use Prim.Native.Nat.{◌-◌, ◌≤◌}
use Rattle.words.specs.Words.{ACTION}
use Rattle.grammar.specs.Grammar.{action}
use Rattle.programs.specs.Images.{none_stored, actions_from}
use Rattle.programs.proofs.ManyLaws.{Loop}
use Rattle.programs.proofs.read_actions.Given as goal

abbrev pub invariant-loop-begin_at : goal.invariant-loop-begin_at
invariant-loop-begin_at l = (l.vars ≤ 8) × Loop ACTION (action l.vars) 16 actions_from l.words l.at none_stored (l.begin_at, l.shapes) l.i l.k

abbrev pub decreases-loop-begin_at : goal.decreases-loop-begin_at
decreases-loop-begin_at l = 16 - l.k
