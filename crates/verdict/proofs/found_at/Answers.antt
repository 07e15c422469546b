use mathlib.Core.Path.{sym, subst, ◌∙◌}
use Rattle.verdict.specs.Working.{Within}
use Rattle.verdict.proofs.Judging.{node-forbids, node-off, off-within}
use Rattle.verdict.proofs.found_at.Goals as goal

pub returns-in-Some-clause-found : goal.returns-in-Some-clause-found
returns-in-Some-clause-found c =
    let s = c.set_at-set in
    λ p ls g J. node-forbids J c.args.k c.requires s.result s.ensures c.in-Some.b (rw c.combinations.ensures at c.in-Some.ensures)

pub returns-in-None : goal.returns-in-None
returns-in-None c =
    let s = c.set_at-set in
    let a = c.args in
    let shown = c.gather_all-known in record {
      within = subst (Within a.case.now.nodes) (sym c.first_unshown.ensures) (off-within a.case.now.asked shown.result a.k a.case.now.nodes c.requires 0 a.case.now.image.now.actions);
      found = λ p ls g J. c.first_unshown.ensures ∙ node-off J a.k c.requires s.result s.ensures (rw c.combinations.ensures at c.in-None.ensures) shown.result shown.ensures;
    }
