-- The words from i on are written, and the way on is what is left: `Tracing`.
use mathlib.Core.Path.{◌≡◌}
use native.Mathlib.Omega.{arith}
use Rattle.verdict.proofs.Traces.{trace_begun, traced-on}
use Rattle.verdict.proofs.write_steps.Goals as goal

pub loop-i-init : goal.loop-i-init
loop-i-init c =
    let a = c.args in
    trace_begun a.records.list.now a.records.actions a.node a.d a.path.now (omega arith) c.requires.1 (omega arith)

pub loop-i-preserved : goal.loop-i-preserved
loop-i-preserved c =
    let o = c.origin-o in
    let a = c.args in
    rw c.word.ensures
    (traced-on a.records.list.now a.records.actions a.node a.d a.path.now c.loop-i.path c.loop-i.k c.loop-i.i c.loop-i.invariant (omega arith) (omega arith) (omega arith) o.result o.ensures c.parent-k.result c.parent-k.ensures.0 c.parent-k.ensures.1)

pub returns : goal.returns
returns c =
    let l = c.loop-i in
    let none : l.i ≡ 0 = omega arith in
    rw none at l.invariant.there
