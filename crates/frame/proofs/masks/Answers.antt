use mathlib.Core.Path.{◌∙◌}
use native.Mathlib.Omega.{arith}
use Rattle.programs.proofs.Tables.{tabling-next}
use Rattle.frame.specs.Masks.{mask_of}
use Rattle.frame.proofs.MaskTable.{mask-stored, actions_are, counts-few, rows-ready}
use Rattle.frame.proofs.masks.Goals as goal

pub mask_by-requires : goal.mask_by-requires
mask_by-requires c = let (p, ok, same) = c.requires in rows-ready p ok same

pub loop-action-preserved : goal.loop-action-preserved
loop-action-preserved c =
    λ p same.
    let (q, ok, is) = c.requires in
    let few = counts-few q ok is in
    tabling-next (mask_of p) p c.loop-action.masks c.loop-action.action (c.loop-action.invariant p same) (omega (arith, actions_are few p same, c.loop-action-test.true)) c.mask_by.result
    (c.mask_by.ensures ∙ mask-stored few p same c.loop-action.action _ c.loop-action-test.true)
