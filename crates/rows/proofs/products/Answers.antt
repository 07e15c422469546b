-- `rows::products` meets its contract. The invariant: the sum is that of the products so far.
use mathlib.Core.Path.{◌≡◌}
use native.Mathlib.Omega.{arith}
use borrow.Author.Rules.{rules}
use lib.IntN.{pos}
use lib.ListN.{length}
use mir.Syntax.{w64}
use mir.Val.{to_z}
use mir.Facts.{to_z-of_z}
use Rattle.std.proofs.lemmas.List.{length_push}
use Rattle.std.proofs.lemmas.Slice.Zip.{zip_turn, zip_end}
use Rattle.rows.proofs.Laws.{Turn, turn, ended}
use Rattle.rows.proofs.products.Goals as goal
use Rattle.rows.proofs.products.Goals.{In-Some}

-- what holds of the numbers of a turn
turn-of : (c : In-Some)
    → Turn c.args.coef c.args.x (length c.loop-a.yielded) (to_z w64 c.loop-a.s-bits) c.in-Some.a.now c.in-Some.b.now
turn-of c =
    let (l, m, a, b) = zip_turn c.args.coef c.args.x c.loop-a.yielded c.into_iter-a-iterator.result c.loop-a.a-iterator c.next.new.self c.next.result (search rules) (search rules) c.loop-a.yielded_by (c.in-Some.a, c.in-Some.b) c.in-Some.is c.next.ensures.steps in
    rw (a (pos 0), b (pos 0)) (turn c.requires.small c.requires.small_2 c.loop-a.invariant (search rules) l m)

pub with_term-s-requires : goal.with_term-s-requires
with_term-s-requires c =
    let t = turn-of (goal.at.with_term-s-requires c).In-Some in
    rw (to_z-of_z t.a-fits, to_z-of_z t.b-fits) record { sfits = t.product-fits; sfits_2 = t.sum_fits }

pub loop-a-preserved : goal.loop-a-preserved
loop-a-preserved c =
    let t = turn-of (goal.at.loop-a-preserved c).In-Some in
    let e = rw (to_z-of_z t.a-fits, to_z-of_z t.b-fits) at c.with_term-s.ensures in
    rw (e, to_z-of_z t.sum_fits, length_push c.loop-a.yielded (c.in-Some.a, c.in-Some.b)) t.next

pub returns : goal.returns
returns c =
    let n = zip_end c.args.coef c.args.x c.loop-a.yielded c.into_iter-a-iterator.result c.loop-a.a-iterator c.next.new.self c.next.result (search rules) (search rules) c.loop-a.yielded_by c.in-None.is c.next.ensures.steps in
    let l : length c.args.coef ≡ 8 = search rules in
    let m : length c.args.x ≡ 8 = search rules in
    ended c.loop-a.invariant (omega arith)
