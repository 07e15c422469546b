-- `sums::add_scaled` meets its contract. The invariant: the first i coefficients are written.
use mathlib.Core.Path.{◌≡◌, ◌∙◌}
use native.Mathlib.Omega.{arith}
use borrow.Author.Rules.{rules}
use lib.ListN.{length, get_or}
use lib.IntN.{pos}
use mir.Syntax.{w64}
use mir.Val.{SFits}
use mir.Facts.{to_z-of_z}
use Rattle.integers.proofs.Fill.{filled_next, filled-all}
use Rattle.sums.specs.Sums.{plus_times}
use Rattle.sums.proofs.Laws.{get_d_plus, length_plus}
use Rattle.sums.proofs.add_scaled.Goals as goal

pub loop-i-preserved : goal.loop-i-preserved
loop-i-preserved c =
    let a : SFits w64 (get_or c.args.s.coef c.loop-i.i (pos 0)) = search rules in
    let b : SFits w64 (get_or c.args.r.coef c.loop-i.i (pos 0)) = search rules in
    let e = rw (to_z-of_z a, to_z-of_z b) at c.with_term.ensures in
    let g : SFits w64 c.with_term.result = search rules in
    filled_next c.loop-i.invariant (search rules) (to_z-of_z g ∙ e)

pub returns : goal.returns
returns c =
    let xs = c.args.s.coef in
    let bs = c.args.r.coef in
    let a : SFits w64 c.args.s.constant = search rules in
    let b : SFits w64 c.args.r.constant = search rules in
    let e = rw (to_z-of_z a, to_z-of_z c.ranges.k, to_z-of_z b) at c.with_term-2.ensures in
    let g : SFits w64 c.with_term-2.result = search rules in
    let lx : length xs ≡ 8 = search rules in
    let lb : length bs ≡ 8 = search rules in
    let m = filled-all c.loop-i.invariant (search rules) (plus_times c.args.k xs bs) (length_plus c.args.k xs bs 8 lx lb) (λ j p. get_d_plus c.args.k xs bs j (omega arith) (omega arith) ∙ rw (to_z-of_z c.ranges.k)) in
    rw (m, to_z-of_z g, e)
