use Rattle.std.proofs.Common.{sym, ◌∙◌}
use Rattle.programs.specs.Calls.{read}
use Rattle.runs.specs.Calls.{ready}
use Rattle.runs.proofs.Guards.{guarded-below}
use Rattle.runs.proofs.NearSizes.{guarded-fits}
use Rattle.rack.proofs.Runs.{never_runs_off}
use Rattle.exports.proofs.NumberLaws.{step-two, step-below}
use Rattle.exports.proofs.bnv_rack_step.Goals as goal

pub step_of-requires : goal.step_of-requires
step_of-requires c = let f = c.args in guarded-fits f.words.now f.k f.state.now c.rack_step.ensures.2

pub returns-clause-never_off : goal.returns-clause-never_off
returns-clause-never_off c =
    let f = c.args in
    rw c.step_of.ensures (step-two c.rack_step.result (λ v e. never_runs_off f.words.now f.k f.state.now v (sym c.rack_step.ensures.0 ∙ e)))

pub returns-clause-below : goal.returns-clause-below
returns-clause-below c =
    let f = c.args in
    rw c.step_of.ensures (step-below c.rack_step.result (guarded-below (ready (read f.words.now) f.k f.state.now) f.k f.state.now c.rack_step.ensures.2))
