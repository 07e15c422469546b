-- The steps taken and the steps left are all: `Counting`.
use mathlib.Core.Path.{sym, ◌∙◌}
use native.Mathlib.Omega.{arith}
use Rattle.verdict.proofs.Traces.{counted-on, counted-root, counted-all}
use Rattle.verdict.proofs.count_steps.Goals as goal

pub loop-d-init : goal.loop-d-init
loop-d-init c = record { low = omega arith; few = omega arith; sum = omega arith }

pub returns-then-o-root_word : goal.returns-then-o-root_word
returns-then-o-root_word c =
    let o = c.origin-o in
    let a = c.args in
    (counted-root a.records.list.now a.records.actions a.node c.loop-d.k c.loop-d.d c.loop-d.invariant o.result o.ensures (omega arith) (c.if-o-root_word.true ∙ c.root_word.ensures), omega arith)

pub loop-d-preserved : goal.loop-d-preserved
loop-d-preserved c =
    let o = c.origin-o in
    let a = c.args in
    counted-on a.records.list.now a.records.actions a.node c.loop-d.k c.loop-d.d c.loop-d.invariant o.result o.ensures (omega arith) (λ e. c.if-o-root_word.false (e ∙ sym c.root_word.ensures)) c.parent-k.result c.parent-k.ensures.0 c.parent-k.ensures.1

pub returns : goal.returns
returns c =
    let a = c.args in
    (omega (arith, counted-all a.records.list.now a.records.actions a.node c.loop-d.k c.loop-d.d c.loop-d.invariant (omega arith)), omega arith)
