use mathlib.Core.Path.{◌≡◌}
use native.Mathlib.Omega.{arith}
use borrow.Author.Rules.{rules}
use lib.IntN.{pos}
use lib.ListN.{length}
use Rattle.rows.specs.Rows.{row_value}
use Rattle.rows.specs.Bounds.{no_row}
use Rattle.rows.proofs.Arrays.{callable_at_items, mapped}
use Rattle.runs.proofs.values.Goals as goal

pub map-requires : goal.map-requires
map-requires c =
    (omega arith, (omega arith, (omega arith, callable_at_items c.args.rows no_row (λ x q e. search rules) (λ k h _ _ _ _ _ _. (c.requires.0 k, c.requires.1)))))

pub returns : goal.returns
returns c =
    let rs = c.args.rows in
    let l : length rs ≡ 8 = search rules in
    mapped _ _ (λ row. row_value row c.args.x) rs c.map.result no_row 8 (pos 0) l (λ k h r q w. (search rules, search rules)) c.map.ensures.items
