use mathlib.Core.Path.{sym, ◌∙◌}
use Prim.Native.Nat.{◌+◌, ◌<◌}
use native.Mathlib.Omega.{arith}
use lib.ListN.{set}
use borrow.Author.Rules.{rules}
use Rattle.reader.proofs.Laws.{handed-back}
use Rattle.words.specs.Words.{ACTION}
use Rattle.grammar.specs.Grammar.{action}
use Rattle.programs.specs.Images.{none_stored, actions_from}
use Rattle.programs.proofs.ManyLaws.{Loop, begun}
use Rattle.programs.proofs.Items.{actions-ended, actions-stopped, action-turned}
use Rattle.programs.proofs.read_actions.Goals as goal
use Rattle.programs.proofs.read_actions.Goals.{In_ok-action}

turn-of : (c : In_ok-action) → let s = c.args in let l = c.loop-begin_at in let x = c.in_ok-action.action in
    (l.k < 16) × Loop ACTION (action s.vars) 16 actions_from s.words.now s.at none_stored (set l.begin_at l.k l.i, set l.shapes l.k (record { count = x.guards; set = x.set })) c.in_ok-action.next (l.k + 1)
turn-of c =
    action-turned c.args.vars c.loop-begin_at.invariant.0 c.args.words.now c.args.at c.loop-begin_at.invariant.1 (sym c.begins.ensures ∙ c.loop-begin_at-test.true) c.in_ok-action.ensures

pub loop-begin_at-init : goal.loop-begin_at-init
loop-begin_at-init c = (search rules, begun ACTION (action _) 16 actions_from c.args.words.now c.args.at none_stored (search rules))

pub returns-in_err-action : goal.returns-in_err-action
returns-in_err-action c =
    handed-back c.from_residual.result c.from_residual.ensures.1 (actions-stopped c.args.vars c.loop-begin_at.invariant.0 c.args.words.now c.args.at c.loop-begin_at.invariant.1 (sym c.begins.ensures ∙ c.loop-begin_at-test.true) c.in_err-action.ensures)

pub bounds-begin_at-k : goal.bounds-begin_at-k
bounds-begin_at-k c = (turn-of (goal.at.bounds-begin_at-k c).In_ok-action).0

pub bounds-shapes-k : goal.bounds-shapes-k
bounds-shapes-k c = (turn-of (goal.at.bounds-shapes-k c).In_ok-action).0

pub loop-begin_at-smaller : goal.loop-begin_at-smaller
loop-begin_at-smaller c = let b = turn-of (goal.at.loop-begin_at-smaller c).In_ok-action in omega arith

pub loop-begin_at-preserved : goal.loop-begin_at-preserved
loop-begin_at-preserved c = (c.loop-begin_at.invariant.0, (turn-of (goal.at.loop-begin_at-preserved c).In_ok-action).1)

pub returns : goal.returns
returns c = actions-ended c.args.vars c.loop-begin_at.invariant.0 c.args.words.now c.args.at c.loop-begin_at.invariant.1 (sym c.begins.ensures ∙ c.loop-begin_at-test.false)
