-- The check finds this alone; it is written out so that an edit that makes it false is refused here.
use borrow.Author.Rules.{rules}
use Rattle.exports.proofs.BnvFindingsFromResultUsizeRefusal.from.Goals as goal

pub returns-in-Err : goal.returns-in-Err
returns-in-Err c = search rules
