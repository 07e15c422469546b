-- What the tables of accepted lemmas hold. Only contracts of functions within the project cite these.
--
-- claim_of   — what is gathered of a lemma
-- with_claim — a claim put before others, if its lemma is accepted
-- claims     — the claims of the accepted lemmas of a list, in order
use Rattle.std.specs.Prelude.{Bool, true, false, List, [], ◌∷◌}
use Rattle.grammar.specs.Programs.{Program}
use Rattle.lemmas.specs.Lemmas.{goal_number, Lemma, accepted}
use Rattle.gather.specs.Gathering.{Claim}

abbrev pub claim_of : Lemma → Claim
claim_of l = record { source = l.source; goal = goal_number l.goal; index = l.index; premises = l.premises.0 }

abbrev pub with_claim : Bool → Claim → List Claim → List Claim
with_claim true c cs = c ∷ cs
with_claim false c cs = cs

unfoldable pub claims : Program → List Lemma → List Claim
claims p [] = []
claims p (l ∷ ls) = with_claim (accepted p l) (claim_of l) (claims p ls)
