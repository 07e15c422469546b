-- `rows::largest` meets its contract: the products at the corner and the constant, added where 64 bits hold the sum.
use Rattle.rows.proofs.Laws.{small-ends}
use Rattle.rows.proofs.largest.Goals as goal

pub products-requires : goal.products-requires
products-requires c =
    record { small = c.requires.small; small_2 = rw c.corner.ensures (small-ends c.args.row.coef c.args.ranges c.requires.small_ranges) }
