use borrow.Author.Rules.{rules}
use Rattle.rack.proofs.Storing.{all_fit}
use Rattle.rack.proofs.store_action.Goals as goal

pub write-requires : goal.write-requires
write-requires c = (c.requires.1, λ v h. rw c.values-new.ensures (all_fit c.args.b.rows c.hold.result v))

-- found alone; written out so that an edit is refused here
pub returns : goal.returns
returns c = search rules

-- found alone; written out so that an edit is refused here
pub returns-in-Some : goal.returns-in-Some
returns-in-Some c = search rules
