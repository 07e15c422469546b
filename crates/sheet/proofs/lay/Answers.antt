-- What is left of the nodes from k on is left to be laid; within a block `passed` speaks of its nodes.
use native.Mathlib.Omega.{arith}
use mathlib.Core.Path.{◌≡◌}
use Prim.Native.Nat.{◌+◌, ◌*◌, ◌/◌}
use Rattle.search.specs.Search.{count}
use Rattle.verdict.specs.Verdicts.{findings_at}
use Rattle.verdict.specs.Working.{Clean}
use Rattle.verdict.proofs.Passing.{clean_at}
use Rattle.sheet.proofs.Laying.{none_left, laid_on, findings-at, findings-end}
use Rattle.sheet.proofs.lay.Goals as goal
use Rattle.sheet.proofs.lay.Goals.{Joined-k-eq0, then-k-eq0, else-k-eq0}

-- what the bits of the block say
clean-now : (c : Joined-k-eq0) → Clean c.args.case.now (c.loop-k.k / 64 * 64) c.if-k-eq0.passed
clean-now c =
    let l = c.loop-k in
    elim c.if-k-eq0.branch [
      | then-k-eq0 w ↦ let at : l.k / 64 * 64 ≡ l.k = omega (arith, w.if-k-eq0.true) in rw (w.passed-is, at) w.clean-passed.ensures
      | else-k-eq0 w ↦ rw w.passed-is (l.invariant.2 (omega (arith, w.if-k-eq0.false)))
    ]

pub loop-k-preserved : goal.loop-k-preserved
loop-k-preserved c =
    let l = c.loop-k in
    let now = clean-now (goal.at.loop-k-preserved c).Joined-k-eq0 in
    let laid = c.lay_in-at.ensures in (
      omega (arith, laid.few),
      λ p ls g J.
          laid_on (findings_at p ls g l.k) _ (rw (findings-at p ls g (count g) l.k (omega (arith, J.size))) at (l.invariant.1 p ls g J)) (laid.laid p ls g J (clean_at _ l.k now (omega arith) J)),
      λ h. let same : (l.k + 1) / 64 * 64 ≡ l.k / 64 * 64 = omega (arith, h) in rw same now,
    )

pub returns : goal.returns
returns c =
    λ p ls g J. none_left (rw (findings-end p ls g (count g) c.loop-k.k (omega (arith, J.size))) at (c.loop-k.invariant.1 p ls g J))
