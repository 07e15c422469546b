-- The check finds this alone; it is written out so that an edit that makes it false is refused here.
use borrow.Author.Rules.{rules}
use Rattle.exports.proofs.BnvAskFromResultAskedRefusal.from.Goals as goal

pub returns-in-Ok-NotAccepted : goal.returns-in-Ok-NotAccepted
returns-in-Ok-NotAccepted c = search rules
