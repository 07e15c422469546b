-- `acceptance::add_if` meets its contract: the row is added, or nothing is.
use mathlib.Core.Path.{◌∙◌}
use Rattle.acceptance.specs.Adding.{add_rows}
use Rattle.acceptance.proofs.Sum.add_if.Goals as goal

pub returns-then-wanted : goal.returns-then-wanted
unfolding add_rows
returns-then-wanted c = c.add_row.ensures ∙ rw c.if-wanted.true

pub returns-else-wanted : goal.returns-else-wanted
unfolding add_rows
returns-else-wanted c = rw c.if-wanted.false
