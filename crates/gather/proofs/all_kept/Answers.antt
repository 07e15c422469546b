-- The check finds this alone; it is written out so that an edit that makes it false is refused here.
use borrow.Author.Rules.{rules}
use Rattle.gather.proofs.all_kept.Goals as goal

pub loop-a-preserved : goal.loop-a-preserved
loop-a-preserved c = search rules
