-- The check finds this alone; it is written out so that an edit that makes it false is refused here.
use borrow.Author.Rules.{rules}
use Rattle.exports.proofs.BnvJudgeFromResultJudgedRefusal.from.Goals as goal

pub returns-in-Ok-MayForbid : goal.returns-in-Ok-MayForbid
returns-in-Ok-MayForbid c = search rules

pub returns-in-Ok-MayRunOff : goal.returns-in-Ok-MayRunOff
returns-in-Ok-MayRunOff c = search rules

pub returns-in-Err : goal.returns-in-Err
returns-in-Err c = search rules
