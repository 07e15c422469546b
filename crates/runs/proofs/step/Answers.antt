use mathlib.Core.Path.{◌∙◌}
use Rattle.programs.specs.Calls.{read}
use Rattle.runs.specs.Runs.{step}
use Rattle.runs.specs.Calls.{ready}
use Rattle.runs.proofs.Answers.{both, Trial, trial, short, good, tried-step}
use Rattle.runs.proofs.Guards.{told, step-guarded}
use Rattle.runs.proofs.step.Goals as goal
use Rattle.runs.proofs.step.Goals.{In_ok-begun}

trial-at : (c : In_ok-begun) → let f = c.args in Trial f.words.now f.k f.state.now c.in_ok-begun.begun
trial-at c = let f = c.args in trial f.words.now f.k f.state.now c.in_ok-begun.ensures

pub take_action-requires : goal.take_action-requires
take_action-requires c =
    let f = c.args in
    let t = trial-at (goal.at.take_action-requires c).In_ok-begun in
    (good f.words.now f.k f.state.now t, short f.words.now f.k f.state.now t)

pub returns : goal.returns
returns c =
    let f = c.args in
    let m = ready (read f.words.now) f.k f.state.now in
    let e = both (tried-step f.words.now f.k f.state.now (trial-at (goal.at.returns c).In_ok-begun)) in
    told step m f.k f.state.now (step-guarded m f.k f.state.now) (c.take_action.ensures.0 ∙ e.0) (c.take_action.ensures.1 ∙ e.1)
