use mathlib.Core.Path.{◌≡◌, ◌∙◌}
use Prim.Native.Nat.{◌+◌, ◌*◌, ◌/◌, ◌%◌, ◌^◌}
use native.Mathlib.Omega.{arith}
use Rattle.words.proofs.Literals.of.Goals as goal

pub returns : goal.returns
returns c =
    let w = c.args.w in
    let same : w / 2 ^ 14 % 2 ^ 14 % 2 ^ 14 * 2 ^ 14 + w % 2 ^ 14 % 2 ^ 14 ≡ w % 2 ^ 28 = omega arith in
    c.new.ensures ∙ λ i. record { 0 = same i }
