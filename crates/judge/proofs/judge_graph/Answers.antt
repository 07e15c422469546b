use Rattle.std.proofs.Common.{◌≡◌, ◌∙◌, ◌<◌, refl, sym, ap, arith, Some}
use Rattle.verdict.specs.Verdicts.{findings}
use Rattle.verdict.specs.declared.Finding.TheVariants.{Forbid, RunOff}
use Rattle.judge.proofs.Judging.{first_none, first_some}
use Rattle.judge.proofs.judge_graph.Goals as goal

pub returns-in-None : goal.returns-in-None
returns-in-None c = λ p ls g J t e.
    let none = first_none (findings p ls g) (c.in-None.ensures.found p ls g J) in
    rw (none, e, J.size) (refl, c.clear_path.ensures)

pub returns-in-Some-Forbid : goal.returns-in-Some-Forbid
returns-in-Some-Forbid c = λ p ls g J t e.
    let is : c.first_finding-found.result ≡ Some (Forbid c.in-Some-Forbid.k c.in-Some-Forbid.b) = c.in-Some-Forbid.is ∙ ap Some (rw c.in-Some-Forbid.is at c.in-Some-Forbid.field-0-is) in
    let (rest, first) = first_some (findings p ls g) (sym is ∙ c.first_finding-found.ensures.found p ls g J) in
    let near : c.in-Some-Forbid.k < c.args.case.now.nodes = rw is at c.first_finding-found.ensures.within in
    rw (first, e, J.size) (refl, c.write_path.ensures g J.listed.0 J.listed.1 (rw (c.args.case.now.same_actions, J.action-count) t) (omega (arith, near, J.size)))

pub returns-in-Some-RunOff : goal.returns-in-Some-RunOff
returns-in-Some-RunOff c = λ p ls g J t e.
    let r = c.in-Some-RunOff in
    let is : c.first_finding-found.result ≡ Some (RunOff r.k r.j r.v r.high) = r.is ∙ ap Some (rw r.is at r.field-0-is) in
    let (rest, first) = first_some (findings p ls g) (sym is ∙ c.first_finding-found.ensures.found p ls g J) in
    let near : r.k < c.args.case.now.nodes = rw is at c.first_finding-found.ensures.within in
    rw (first, e, J.size) (refl, c.write_path-in-Some-RunOff.ensures g J.listed.0 J.listed.1 (rw (c.args.case.now.same_actions, J.action-count) t) (omega (arith, near, J.size)))
