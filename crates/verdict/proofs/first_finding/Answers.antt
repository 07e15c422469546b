-- Nothing is found before node k; within a block `passed` speaks of its nodes.
use native.Mathlib.Omega.{arith}
use mathlib.Core.Path.{◌≡◌, sym, ◌∙◌}
use Prim.Native.Nat.{◌+◌, ◌*◌, ◌/◌}
use Rattle.verdict.specs.Working.{Clean}
use Rattle.verdict.proofs.Passing.{clean_at}
use Rattle.verdict.proofs.Judging.{before-first, nothing_yet, found_here, found_none}
use Rattle.verdict.proofs.first_finding.Goals as goal
use Rattle.verdict.proofs.first_finding.Goals.{Joined-k-eq0, then-k-eq0, else-k-eq0}

-- what the bits of the block say
clean-now : (c : Joined-k-eq0) → Clean c.args.case.now (c.loop-k.k / 64 * 64) c.if-k-eq0.passed
clean-now c =
    let l = c.loop-k in
    elim c.if-k-eq0.branch [
      | then-k-eq0 w ↦ let at : l.k / 64 * 64 ≡ l.k = omega (arith, w.if-k-eq0.true) in rw (w.passed-is, at) w.clean-passed.ensures
      | else-k-eq0 w ↦ rw w.passed-is (l.invariant.1 (omega (arith, w.if-k-eq0.false)))
    ]

pub loop-k-init : goal.loop-k-init
loop-k-init c = (λ p ls g J. before-first p ls g, λ h. absurd (omega (arith, h)))

pub loop-k-preserved : goal.loop-k-preserved
loop-k-preserved c =
    let l = c.loop-k in
    let now = clean-now (goal.at.loop-k-preserved c).Joined-k-eq0 in
    let found = c.found_in-found in (
      λ p ls g J.
          nothing_yet p ls g l.k (l.invariant.0 p ls g J) (omega (arith, J.size)) found.result (found.ensures.found p ls g J (clean_at _ l.k now (omega arith) J)) (sym c.is_some.ensures ∙ c.if-is_some.false),
      λ h. let same : (l.k + 1) / 64 * 64 ≡ l.k / 64 * 64 = omega (arith, h) in rw same now,
    )

pub returns-then-is_some-clause-found : goal.returns-then-is_some-clause-found
returns-then-is_some-clause-found c =
    let l = c.loop-k in
    let now = clean-now (goal.at.returns-then-is_some-clause-found c).Joined-k-eq0 in
    let found = c.found_in-found in
    λ p ls g J.
    found_here p ls g l.k (l.invariant.0 p ls g J) (omega (arith, J.size)) found.result (found.ensures.found p ls g J (clean_at _ l.k now (omega arith) J)) (sym c.is_some.ensures ∙ c.if-is_some.true)

pub returns-clause-found : goal.returns-clause-found
returns-clause-found c =
    let l = c.loop-k in
    λ p ls g J. found_none p ls g l.k (l.invariant.0 p ls g J) (omega (arith, J.size))
