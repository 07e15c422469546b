use mathlib.Core.Path.{◌≡◌, ap}
use native.Mathlib.Omega.{arith}
use lib.ListN.{length, take}
use Rattle.lines.specs.Text.{decimal}
use Rattle.lines.proofs.Decimals.{in_decimal}
use Rattle.lines.proofs.put_number.Goals as goal
use Rattle.lines.proofs.put_number.Goals.{After-decimal-k}

text-is : (c : After-decimal-k) → take c.decimal-k.result c.decimal-k.new.out ≡ decimal c.before.before.before.args.n
text-is c =
    let d = c.decimal-k in
    in_decimal c.before.before.before.args.n d.result (take d.result d.new.out) d.ensures.len (omega arith) d.ensures.digits

pub put_bytes-requires : goal.put_bytes-requires
put_bytes-requires c = omega (arith, ap length (text-is (goal.at.put_bytes-requires c).After-decimal-k))

pub returns : goal.returns
returns c = rw (text-is (goal.at.returns c).After-decimal-k) at c.put_bytes.ensures
