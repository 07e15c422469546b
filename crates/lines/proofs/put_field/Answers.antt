use native.Mathlib.Omega.{arith}
use lib.ListN.{length-append}
use Rattle.lines.specs.Text.{decimal}
use Rattle.lines.proofs.Puts.{then_put}
use Rattle.lines.proofs.put_field.Goals as goal

pub returns : goal.returns
returns c =
    let a = c.args in
    then_put c.put_bytes-next.ensures c.put_number.ensures (omega (arith, length-append a.text.now (decimal a.n)))
