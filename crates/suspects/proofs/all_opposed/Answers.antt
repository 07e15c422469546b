-- The combinations so far.
use native.Mathlib.Omega.{arith}
use mathlib.Core.Path.{◌≡◌}
use lib.ListN.{length-take}
use Rattle.std.proofs.lemmas.List.{get_or-take}
use Rattle.words.specs.Words.{no_literals}
use Rattle.words.specs.declared.Literals.{Literals}
use Rattle.suspects.proofs.Finding.{opposed-next}
use Rattle.suspects.proofs.all_opposed.Goals as goal

pub loop-c-preserved : goal.loop-c-preserved
loop-c-preserved c nodes s k =
    let l = c.loop-c in
    let e = get_or-take c.args.n c.args.literals l.c-index no_literals (omega (arith, length-take {A = Literals})) in
    opposed-next l.c-index l.r c.opposed-r.result (l.invariant nodes s k) (rw e at (c.opposed-r.ensures nodes s k))

pub returns : goal.returns
returns c =
    let l = c.loop-c in
    let done : l.c-index ≡ c.args.n = omega (arith, length-take {A = Literals}) in
    rw done at l.invariant
