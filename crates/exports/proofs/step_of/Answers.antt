-- The check finds this alone; it is written out so that an edit that makes it false is refused here.
use borrow.Author.Rules.{rules}
use Rattle.exports.proofs.step_of.Goals as goal

pub returns-in-Ok-Moved : goal.returns-in-Ok-Moved
returns-in-Ok-Moved c = search rules

pub returns-in-Ok-NotEnabled : goal.returns-in-Ok-NotEnabled
returns-in-Ok-NotEnabled c = search rules
