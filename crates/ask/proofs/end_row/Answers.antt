use mathlib.Core.Path.{refl}
use mathlib.Core.Bool.{true, false}
use native.Mathlib.Omega.{arith}
use borrow.Author.Rules.{rules}
use lib.IntN.{pos, neg_ℤ, ◌-ℤ◌, +ℤ_idl}
use mir.Syntax.{w64}
use mir.Val.{SFits}
use mir.Facts.{to_z-of_z}
use Rattle.integers.proofs.Laws.{within-fits, sum, opposite, literal}
use Rattle.ask.proofs.Rows.{end_read}
use Rattle.ask.proofs.end_row.Goals as goal

pub returns-then-low : goal.returns-then-low
returns-then-low c =
    let low = c.args.range.low in
    let f : SFits w64 low = search rules in
    let g : SFits w64 (pos 0 -ℤ low) = within-fits w64 (omega arith) (sum (literal {B = 0} {z = pos 0} tt tt) (opposite c.requires.1.low)) in
    rw (to_z-of_z f, to_z-of_z g, +ℤ_idl (neg_ℤ low), c.if-low.true) (refl, end_read c.args.range true c.args.v c.requires.1)

pub returns : goal.returns
returns c =
    let f : SFits w64 c.args.range.high = search rules in
    rw (to_z-of_z f, c.if-low.false) (refl, end_read c.args.range false c.args.v c.requires.1)
