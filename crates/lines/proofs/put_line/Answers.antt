use native.Mathlib.Omega.{arith}
use lib.ListN.{length-append}
use Rattle.lines.specs.Text.{field, line}
use Rattle.lines.proofs.Puts.{then_put, length-line}
use Rattle.lines.proofs.put_line.Goals as goal

pub put_field-at-requires : goal.put_field-at-requires
put_field-at-requires c =
    let a = c.args in
    omega (arith, length-line a.first.now a.n a.second.now a.m)

pub put_field-next-requires : goal.put_field-next-requires
put_field-next-requires c =
    let a = c.args in
    omega (arith, length-line a.first.now a.n a.second.now a.m, c.put_field-at.ensures.ends)

pub put_bytes-requires : goal.put_bytes-requires
put_bytes-requires c =
    let a = c.args in
    omega (arith, length-line a.first.now a.n a.second.now a.m, c.put_field-next.ensures.ends, c.put_field-at.ensures.ends)

pub returns : goal.returns
unfolding line
returns c =
    let a = c.args in
    let all = length-line a.first.now a.n a.second.now a.m in
    let two = length-append (field a.first.now a.n) (field a.second.now a.m) in
    then_put (then_put c.put_field-at.ensures c.put_field-next.ensures (omega arith)) c.put_bytes.ensures (omega arith)
