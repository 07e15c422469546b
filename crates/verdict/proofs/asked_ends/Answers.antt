-- What is in the table, with what is still to come, is the whole: `Tabling`.
use mathlib.Core.Path.{ap, ◌∙◌}
use native.Mathlib.Omega.{arith}
use Rattle.programs.specs.declared.Image.{Image}
use Rattle.programs.specs.declared.Shape.{Shape}
use Rattle.lemmas.proofs.SourceLaws.{stored-shape}
use Rattle.programs.proofs.Tables.{tabling-next}
use Rattle.verdict.specs.Working.{ends_to, ends_of}
use Rattle.verdict.proofs.asked_ends.Goals as goal

pub loop-action-preserved : goal.loop-action-preserved
loop-action-preserved c =
    let l = c.loop-action in
    λ p same.
    let n = ap (λ (y : Image). y.actions) same in
    tabling-next ends_of p l.asked l.action (l.invariant p same) (omega (arith, n)) c.ends_of.result
    (c.ends_of.ensures ∙ ap (λ (s : Shape). ends_to s.set 8) (stored-shape p (omega (arith, n)) (ap (λ (y : Image). y.shapes) same) l.action _ (omega (arith, n))))
