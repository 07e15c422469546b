use Rattle.programs.specs.Calls.{read}
use Rattle.runs.specs.Calls.{ready}
use Rattle.runs.proofs.Guards.{guarded-below}
use Rattle.runs.proofs.NearSizes.{guarded-fits}
use Rattle.exports.proofs.NumberLaws.{step-below}
use Rattle.exports.proofs.bnv_step.Goals as goal

pub step_of-requires : goal.step_of-requires
step_of-requires c = let f = c.args in guarded-fits f.words.now f.k f.state.now c.step.ensures.2

pub returns-clause-below : goal.returns-clause-below
returns-clause-below c =
    let f = c.args in
    rw c.step_of.ensures (step-below c.step.result (guarded-below (ready (read f.words.now) f.k f.state.now) f.k f.state.now c.step.ensures.2))
