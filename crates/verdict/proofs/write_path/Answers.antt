use native.Mathlib.Omega.{arith}
use Rattle.verdict.proofs.Traces.{path-written}
use Rattle.verdict.proofs.write_path.Goals as goal

pub returns : goal.returns
returns c =
    let d = c.count_steps-d in
    let a = c.args in
    path-written a.records.list.now a.records.actions a.node d.result a.path.now _ _ (omega arith) d.ensures.0 d.ensures.1 c.clear.ensures c.write_steps.ensures
