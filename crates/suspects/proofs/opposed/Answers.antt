-- The halves changed over; where there is no bit, nothing is said.
use Rattle.suspects.proofs.Finding.{opposed_by}
use Rattle.suspects.proofs.opposed.Goals as goal

pub returns-then-set-lt268435456 : goal.returns-then-set-lt268435456
returns-then-set-lt268435456 c nodes small k =
    opposed_by c.args.columns.now nodes c.args.set c.any_of.result c.if-set-lt268435456.true small k (rw c.swapped.ensures at c.any_of.ensures)
