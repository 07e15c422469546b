-- The check finds this alone; it is written out so that an edit that makes it false is refused here.
use borrow.Author.Rules.{rules}
use Rattle.exports.proofs.BnvShowFromResultAnsweredUnread.from.Goals as goal

pub returns-in-Err-OddBytes : goal.returns-in-Err-OddBytes
returns-in-Err-OddBytes c = search rules
