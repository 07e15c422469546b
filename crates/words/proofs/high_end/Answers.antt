use mathlib.Core.Path.{◌≡◌, ap, ◌∙◌}
use Prim.Native.Nat.{◌%◌, ◌^◌}
use native.Mathlib.Omega.{arith}
use mir.Facts.{to_z-of_z}
use mir.Syntax.{w64}
use Rattle.words.specs.Words.{bits, signed}
use borrow.Author.Rules.{rules}
use Rattle.words.proofs.high_end.Goals as goal

pub returns : goal.returns
returns c =
    let w = c.args.w in
    let low : w % 2 ^ 14 ≡ bits 13 0 w = omega arith in
    to_z-of_z {w = w64} (search rules) ∙ c.signed_by.ensures ∙ ap (signed 14) low
