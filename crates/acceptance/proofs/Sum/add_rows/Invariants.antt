-- `Sum::add_rows` meets its contract. The invariant: the rows below the index are added.
use Rattle.acceptance.proofs.Laws.{Added}
use Rattle.acceptance.proofs.Sum.add_rows.Given as goal

abbrev pub invariant-loop-r : goal.invariant-loop-r
invariant-loop-r l = Added l.mults l.initial.s l.rows l.r-index l.s
