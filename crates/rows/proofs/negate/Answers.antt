-- `rows::negate` meets its contract: every number is small enough for its negation to fit.
use mathlib.Core.Path.{◌≡◌, refl, ◌∙◌}
use mathlib.Core.List.{map}
use native.Mathlib.Omega.{arith}
use borrow.Author.Rules.{rules}
use lib.ListN.{length, get_or}
use lib.IntN.{ℤ, pos, negsuc, neg_ℤ, ◌+ℤ◌, ◌-ℤ◌, +ℤ_idl}
use mir.Syntax.{w64}
use mir.Val.{SFits, to_z, of_z}
use mir.Facts.{to_z-of_z}
use Rattle.integers.proofs.Laws.{Within, opposite, sum, literal, within-fits, within_weaken}
use Rattle.rows.specs.Bounds.{max_coef, max_const}
use Rattle.rows.proofs.Arrays.{callable_at_items, mapped}
use Rattle.rows.proofs.negate.Goals as goal

-- z and 0 - z fit where z is small, and so does 0 - z + m for m from -1 to 1
less-fits : {z : ℤ} → Within max_const z → SFits w64 z × SFits w64 (pos 0 -ℤ z)
less-fits h = (within-fits w64 (omega arith) h, within-fits w64 (omega arith) (sum (literal {B = 0} {z = pos 0} tt tt) (opposite h)))

more-fits : {z : ℤ} (m : ℤ) → Within 1 m → Within max_const z → SFits w64 (pos 0 -ℤ z +ℤ m)
more-fits m b h = within-fits w64 (omega arith) (sum (sum (literal {B = 0} {z = pos 0} tt tt) (opposite h)) b)

small : {z : ℤ} → Within max_coef z → Within max_const z
small h = within_weaken {A = max_coef} (omega arith) h

pub map-requires : goal.map-requires
map-requires c = (
  omega arith,
  (
    omega arith,
    (
      omega arith,
      callable_at_items c.args.row.coef (pos 0) (λ x q e. refl) (λ k h _ _ _ _ _. let f = less-fits (small (c.requires.coefs k)) in rw (to_z-of_z f.0) f.1),
    ),
  ),
)

pub overflow_sub-result-2 : goal.overflow_sub-result-2
overflow_sub-result-2 c = let f = less-fits c.requires.const in rw (to_z-of_z f.0, to_z-of_z f.1) (more-fits _ (literal tt tt) c.requires.const)

pub returns : goal.returns
returns c =
    let xs = c.args.row.coef in
    let f = less-fits c.requires.const in
    let l : length xs ≡ 8 = search rules in
    let same : c.map.result ≡ map neg_ℤ xs = mapped _ _ neg_ℤ xs c.map.result (pos 0) 8 (pos 0) l
    (λ k h r q w.
    let e : r ≡ to_z w64 (of_z w64 (pos 0 -ℤ to_z w64 (of_z w64 (get_or xs k (pos 0))))) = search rules in
    let g = less-fits (small (c.requires.coefs k)) in
    (refl, e ∙ rw (to_z-of_z g.0, to_z-of_z g.1) (+ℤ_idl (neg_ℤ (get_or xs k (pos 0)))))) c.map.ensures.items in
    let g = more-fits (negsuc 0) (literal tt tt) c.requires.const in
    rw (same, to_z-of_z f.0, to_z-of_z f.1, to_z-of_z g, +ℤ_idl (neg_ℤ c.args.row.constant)) refl
