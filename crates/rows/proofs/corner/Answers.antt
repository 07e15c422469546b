-- `rows::corner` meets its contract. The invariant: the first i ends are written.
use mathlib.Core.Path.{◌≡◌}
use native.Mathlib.Omega.{arith}
use borrow.Author.Rules.{rules}
use lib.ListN.{length}
use Rattle.integers.proofs.Fill.{filled-all}
use Rattle.rows.specs.Rows.{corner}
use Rattle.rows.proofs.Laws.{get_d_ends, length-ends}
use Rattle.rows.proofs.corner.Goals as goal

pub returns : goal.returns
returns c =
    let a = c.args in
    let l : length a.coef ≡ 8 = search rules in
    let m : length a.ranges ≡ 8 = search rules in
    filled-all c.loop-i.invariant (search rules) (corner a.coef a.ranges) (length-ends a.coef a.ranges 8 l m)
    (λ k p. get_d_ends a.coef a.ranges k (omega arith) (omega arith))
