-- `sums::after` meets its contract. The invariant: the rows of the variables so far are added.
use mathlib.Core.Path.{◌≡◌, ◌∙◌}
use Prim.Native.Nat.{◌<◌}
use native.Mathlib.Omega.{arith}
use borrow.Author.Rules.{rules}
use lib.IntN.{pos}
use lib.ListN.{length, get_or}
use mir.Syntax.{w64}
use mir.Val.{SFits, to_z, of_z}
use mir.Facts.{to_z-of_z}
use Rattle.std.proofs.lemmas.List.{length_push}
use Rattle.std.proofs.lemmas.Slice.Zip.{zip_turn, zip_end}
use Rattle.rows.specs.Bounds.{no_row}
use Rattle.sums.proofs.Room.{part-fits, part-next, part-all}
use Rattle.sums.proofs.after.Goals as goal
use Rattle.sums.proofs.after.Goals.{In-Some}

-- the coefficient and the row of a turn
turn-of : (c : In-Some) → let g = c.args.g.coef in let v = length c.loop-c.yielded in
    (v < length g) × (v < length c.args.rows) × (to_z w64 (of_z w64 c.in-Some.c.now) ≡ get_or g v (pos 0)) × (c.in-Some.a.now ≡ get_or c.args.rows v no_row)
turn-of c =
    let (l, m, a, b) = zip_turn c.args.g.coef c.args.rows c.loop-c.yielded c.into_iter-c-iterator.result c.loop-c.c-iterator c.next.new.self c.next.result (search rules) (search rules) c.loop-c.yielded_by (c.in-Some.c, c.in-Some.a) c.in-Some.is c.next.ensures.steps in
    let f : SFits w64 c.in-Some.c.now = search rules in
    (l, m, to_z-of_z f ∙ a (pos 0), b no_row)

pub add_scaled-s-requires : goal.add_scaled-s-requires
add_scaled-s-requires c =
    let (l, m, a, b) = turn-of (goal.at.add_scaled-s-requires c).In-Some in
    rw (a, b) (part-fits c.args.g c.args.rows c.requires.single c.requires.by_index (length c.loop-c.yielded) c.loop-c.s c.loop-c.invariant (search rules))

pub loop-c-preserved : goal.loop-c-preserved
loop-c-preserved c =
    let (l, m, a, b) = turn-of (goal.at.loop-c-preserved c).In-Some in
    rw (c.add_scaled-s.ensures, length_push c.loop-c.yielded (c.in-Some.c, c.in-Some.a), a, b)
    (part-next c.args.g c.args.rows c.requires.single c.requires.by_index (length c.loop-c.yielded) c.loop-c.s c.loop-c.invariant l m)

pub returns : goal.returns
returns c =
    let n = zip_end c.args.g.coef c.args.rows c.loop-c.yielded c.into_iter-c-iterator.result c.loop-c.c-iterator c.next.new.self c.next.result (search rules) (search rules) c.loop-c.yielded_by c.in-None.is c.next.ensures.steps in
    let lg : length c.args.g.coef ≡ 8 = search rules in
    let lr : length c.args.rows ≡ 8 = search rules in
    part-all c.args.g c.args.rows c.requires.single c.requires.by_index (length c.loop-c.yielded) c.loop-c.s c.loop-c.invariant (omega arith) lg
