-- Found without an answer too; with one, the edit list_left_alone is refused at this goal.
use Rattle.records.proofs.clear.Goals as goal
use borrow.Author.Rules.{rules}

pub returns : goal.returns
returns c = search rules
