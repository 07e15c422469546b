use mathlib.Core.Path.{◌∙◌}
use Rattle.programs.specs.Calls.{read}
use Rattle.runs.specs.Calls.{ready}
use Rattle.runs.proofs.Answers.{both, Trial, trial, short, good}
use Rattle.runs.proofs.Guards.{told}
use Rattle.rack.specs.Rack.{rack_step}
use Rattle.rack.proofs.Storing.{stored_is}
use Rattle.rack.proofs.Runs.{rack_guarded}
use Rattle.rack.proofs.rack_step.Goals as goal
use Rattle.rack.proofs.rack_step.Goals.{In_ok-begun}

trial-at : (c : In_ok-begun) → let f = c.args in Trial f.words.now f.k f.state.now c.in_ok-begun.begun
trial-at c = let f = c.args in trial f.words.now f.k f.state.now c.in_ok-begun.ensures

pub store_action-requires : goal.store_action-requires
store_action-requires c =
    let f = c.args in
    let t = trial-at (goal.at.store_action-requires c).In_ok-begun in
    (good f.words.now f.k f.state.now t, short f.words.now f.k f.state.now t)

pub returns : goal.returns
returns c =
    let f = c.args in
    let m = ready (read f.words.now) f.k f.state.now in
    let e = both (stored_is f.words.now f.k f.state.now (trial-at (goal.at.returns c).In_ok-begun)) in
    told rack_step m f.k f.state.now (rack_guarded m f.k f.state.now) (c.store_action.ensures.0 ∙ e.0) (c.store_action.ensures.1 ∙ e.1)
