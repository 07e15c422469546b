-- The check finds this alone; it is written out so that an edit that makes it false is refused here.
use borrow.Author.Rules.{rules}
use Rattle.verdict.proofs.cases.Case.set_at.Goals as goal

pub returns : goal.returns
returns c = search rules
