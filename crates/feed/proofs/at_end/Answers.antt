use mathlib.Core.Path.{sym}
use native.Mathlib.Omega.{arith}
use Rattle.feed.proofs.Laws.{end-first, end_later}
use Rattle.feed.proofs.at_end.Goals as goal

pub returns-then-kept-lt1 : goal.returns-then-kept-lt1
returns-then-kept-lt1 c a =
    let none = c.if-kept-lt1.true in
    rw c.refused.ensures (sym (end-first c.args.kept a (omega arith)))

pub returns : goal.returns
returns c a =
    let some = c.if-kept-lt1.false in
    sym (end_later c.args.kept a (omega arith))
