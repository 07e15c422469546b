-- The place of the first END word is what `position` found.
use Rattle.std.proofs.Common.{rules, tests}
use Rattle.std.proofs.lemmas.Iterator.Search.{position_from_yields_List}
use Rattle.std.proofs.lemmas.Iterator.{YieldsList-from_slice}
use Rattle.show.proofs.Logic.{ends, First, with_end, with_none}
use Rattle.show.proofs.logic_length.Goals as goal
use Rattle.show.proofs.logic_length.Goals.{After-position}

found : (c : After-position) → First c.args.words.now c.position.result
found c = position_from_yields_List ends _ _ c.position.result c.position.ensures.ran (YieldsList-from_slice c.args.words.now cc) (λ x b q k. search (rules, tests))

pub returns-in-Some : goal.returns-in-Some
returns-in-Some c = with_end c.args.words.now (found (goal.at.returns-in-Some c).After-position) c.in-Some.is

pub returns-in-None : goal.returns-in-None
returns-in-None c = with_none c.args.words.now (found (goal.at.returns-in-None c).After-position) c.in-None.is
