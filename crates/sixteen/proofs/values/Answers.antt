use Rattle.std.proofs.Common.{◌≡◌, length, pos, rules}
use Rattle.rows.specs.Bounds.{no_row}
use Rattle.rows.proofs.Arrays.{mapped}
use Rattle.sixteen.specs.Sixteen.{wrapped_value}
use Rattle.sixteen.proofs.values.Goals as goal

pub returns : goal.returns
returns c =
    let rs = c.args.rows in
    let l : length rs ≡ 8 = search rules in
    mapped _ _ (λ row. wrapped_value row c.args.held) rs c.map.result no_row 8 (pos 0) l (λ k h r q w. (search rules, search rules)) c.map.ensures.items
