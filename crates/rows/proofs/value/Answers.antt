-- `rows::value` meets its contract: the products and the constant, and their sum fits.
use mathlib.Core.Path.{◌≡◌, ◌∙◌}
use native.Mathlib.Omega.{arith}
use borrow.Author.Rules.{rules}
use lib.IntN.{◌+ℤ◌}
use lib.ListN.{length}
use mir.Syntax.{w64}
use mir.Val.{SFits, to_z, of_z}
use mir.Facts.{to_z-of_z}
use Rattle.integers.proofs.Laws.{sum, within-fits}
use Rattle.rows.specs.Rows.{row_value}
use Rattle.rows.specs.Bounds.{max_coef, max_state}
use Rattle.rows.proofs.Laws.{dot-within}
use Rattle.rows.proofs.value.Goals as goal
use Rattle.rows.proofs.value.Goals.{After-products}

-- the two numbers that are added, and their sum
same : (c : After-products)
    → let a = c.before.args in
    to_z w64 (of_z w64 c.products.result) +ℤ to_z w64 (of_z w64 a.row.constant) ≡ row_value a.row a.state
same c =
    let f : SFits w64 c.products.result = search rules in
    let g : SFits w64 c.before.args.row.constant = search rules in
    rw (to_z-of_z f, to_z-of_z g, c.products.ensures)

value-fits : (c : After-products) → let a = c.before.args in SFits w64 (row_value a.row a.state)
value-fits c =
    let s = c.before in
    let r = s.args.row in
    let l : length r.coef ≡ 8 = search rules in
    within-fits w64 (omega arith) (sum (dot-within r.coef s.args.state 8 max_coef max_state l s.requires.small.coefs s.requires.small_2) s.requires.small.const)

pub overflow_add-result : goal.overflow_add-result
overflow_add-result c = rw (same (goal.at.overflow_add-result c).After-products) (value-fits (goal.at.overflow_add-result c).After-products)

pub returns : goal.returns
returns c = to_z-of_z (overflow_add-result c) ∙ same (goal.at.returns c).After-products
