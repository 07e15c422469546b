-- The check finds this alone; it is written out so that an edit that makes it false is refused here.
use borrow.Author.Rules.{rules}
use Rattle.ready.proofs.successor_in.Goals as goal

pub returns-else-gone-j-eq1 : goal.returns-else-gone-j-eq1
returns-else-gone-j-eq1 c = search rules
