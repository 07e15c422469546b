use Rattle.sheet.proofs.Found.{found_at}
use Rattle.sheet.proofs.lay_at.Goals as goal

pub returns-clause-laid : goal.returns-clause-laid
returns-clause-laid c =
    λ p ls g J. found_at J c.args.k c.requires.0 c.set_at-set.ensures c.gather_all-known.ensures (rw c.combinations.ensures at c.lay_free-at.ensures.1) c.lay_off.ensures.1
