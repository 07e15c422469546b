-- The first j actions.
use native.Mathlib.Omega.{arith}
use mathlib.Core.Path.{◌≡◌}
use Prim.Native.Nat.{ℕ}
use lib.ListN.{length-take}
use Rattle.std.proofs.lemmas.List.{get_or-take}
use Rattle.suspects.proofs.Finding.{keeps-next}
use Rattle.suspects.proofs.all_keep.Goals as goal

pub loop-j-preserved : goal.loop-j-preserved
loop-j-preserved c kept nodes es b =
    let l = c.loop-j in
    let e = get_or-take c.args.actions c.args.asked l.j 0 (omega (arith, length-take {A = ℕ})) in
    keeps-next l.j l.r c.keeps-r.result (l.invariant kept nodes es b) (rw e at (c.keeps-r.ensures kept nodes es b))

pub returns : goal.returns
returns c =
    let l = c.loop-j in
    let done : l.j ≡ c.args.actions = omega (arith, length-take {A = ℕ}) in
    rw done at l.invariant
