-- `sixteen::products` meets its contract. The invariant: the rest of the row, added to the sum so far, is the whole.
use Rattle.std.proofs.Common.{◌≡◌, length, pos, sym, ◌∙◌, arith, to_z-of_z, w64, SFits, rules}
use Rattle.std.proofs.lemmas.List.{length_push}
use Rattle.std.proofs.lemmas.Slice.Zip.{zip_turn, zip_end}
use Rattle.sixteen.proofs.Laws.{dot-next, dot-end}
use Rattle.sixteen.proofs.products.Goals as goal

pub loop-c-preserved : goal.loop-c-preserved
loop-c-preserved c =
    let cs = c.args.coef in
    let xs = c.args.held in
    let (l, m, a, b) = zip_turn cs xs c.loop-c.yielded c.into_iter-c-iterator.result c.loop-c.c-iterator c.next.new.self c.next.result (search rules) (search rules) c.loop-c.yielded_by (c.in-Some.c, c.in-Some.x) c.in-Some.is c.next.ensures.steps in
    let f : SFits w64 c.in-Some.c.now = search rules in
    rw (length_push c.loop-c.yielded (c.in-Some.c, c.in-Some.x), c.product-sum.ensures, c.cut.ensures, to_z-of_z f, a (pos 0), b 0) (sym (dot-next c.loop-c.sum cs xs (length c.loop-c.yielded) l m) ∙ c.loop-c.invariant)

pub returns : goal.returns
returns c =
    let cs = c.args.coef in
    let n = zip_end cs c.args.held c.loop-c.yielded c.into_iter-c-iterator.result c.loop-c.c-iterator c.next.new.self c.next.result (search rules) (search rules) c.loop-c.yielded_by c.in-None.is c.next.ensures.steps in
    let l : length cs ≡ 8 = search rules in
    let m : length c.args.held ≡ 8 = search rules in
    sym (dot-end c.loop-c.sum cs c.args.held (length c.loop-c.yielded) (omega arith)) ∙ c.loop-c.invariant
