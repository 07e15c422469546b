use Rattle.std.proofs.Common.{refl, arith}
use Rattle.survey.proofs.Surveying.{masks-long}
use Rattle.judge.proofs.Judging.{nodes-few, image-few, judging}
use Rattle.judge.proofs.case_of.Goals as goal

pub invariant_of-records-clause-few : goal.invariant_of-records-clause-few
invariant_of-records-clause-few c =
    let (_, _, _, r) = c.requires.0 in
    (image-few r).0

pub invariant_of-result : goal.invariant_of-result
invariant_of-result c =
    let (p, _, _, r) = c.requires.0 in
    record { same_actions = refl; few_forbidden = (image-few r).1; all_kept = masks-long p r.masks; few_nodes = omega (arith, nodes-few r) }

pub returns : goal.returns
returns c = λ p ls g r. judging r refl (c.asked_ends.ensures p r.same) refl refl refl refl
