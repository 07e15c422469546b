-- The state after an action is what the eight rows of its variables are worth.
use mathlib.Core.Path.{◌≡◌, refl, sym, ap, ◌∙◌}
use mathlib.Core.List.{List, [], ◌∷◌, ◌++◌, map}
use Prim.Native.Nat.{ℕ, zero, suc, ◌+◌, ◌-◌, ◌≤◌, ◌<◌}
use native.Mathlib.Omega.{arith}
use native.Mathlib.Nat.{not-suc-le-zero, le_of_suc-le-suc}
use native.Mathlib.Decide.{ℕ_discrete, dec_lt}
use lib.IntN.{ℤ, pos}
use lib.ListN.{length, get_or, set, replicate, length-append, length-replicate, length-set, length-map, get_or-append}
use lib.Seq.{get_or-set_same, get_or-set_other, ext_get_or}
use borrow.Author.Tests.{eq-eqb, ne_eqb}
use Rattle.integers.proofs.Int.{var, num, ◌⊕◌, ◌⊗◌, equal}
use Rattle.integers.proofs.Fill.{get_d_mapped}
use Rattle.rows.specs.declared.Row.{Row}
use Rattle.rows.specs.Rows.{row_value}
use Rattle.rows.specs.Bounds.{no_row}
use Rattle.grammar.specs.Programs.{Assignment}
use Rattle.grammar.specs.WellFormed.{Rising}
use Rattle.actions.specs.NewRows.{keep_row, keep_rows, assigned}
use Rattle.programs.proofs.Places.{none_action}
use Rattle.runs.specs.Runs.{new_value, values_from, new_state}
use Rattle.runs.specs.Values.{padded}
use Rattle.runs.proofs.Trying.{value-padded}
use Rattle.runs.proofs.Sizes.{every-copy, unit_value}

-- ---- the values of n variables
pub values_length : (f : ℕ → ℤ) (v n : ℕ) → length (values_from f v n) ≡ n
unfolding values_from
values_length f v zero = refl
values_length f v (suc n) = ap suc (values_length f (suc v) n)

value-from : (f : ℕ → ℤ) (v n i : ℕ) → i < n → get_or (values_from f v n) i (pos 0) ≡ f (v + i)
unfolding values_from
value-from f v zero i h = absurd (not-suc-le-zero h)
value-from f v (suc n) zero h = let e : v ≡ v + 0 = omega arith in ap f e
value-from f v (suc n) (suc i) h = let e : suc v + i ≡ v + suc i = omega arith in value-from f (suc v) n i (le_of_suc-le-suc h) ∙ ap f e

pub value-at : (f : ℕ → ℤ) (n v : ℕ) → v < n → get_or (values_from f 0 n) v (pos 0) ≡ f v
value-at f n v h = let e : 0 + v ≡ v = omega arith in value-from f 0 n v h ∙ ap f e

-- with no assignment the state stays
pub none-set : (s : List ℤ) → new_state none_action s ≡ s
unfolding new_value
none-set s = ext_get_or (pos 0) (new_state none_action s) s (values_length (new_value [] s) 0 (length s)) (λ v h. value-at (new_value [] s) (length s) v (rw (values_length (new_value [] s) 0 (length s)) at h))

-- ---- the row of a variable is worth its new value
keep_at : (v : ℕ) → v < 8 → get_or keep_rows v no_row ≡ keep_row v
keep_at zero h = refl
keep_at (suc zero) h = refl
keep_at (suc (suc zero)) h = refl
keep_at (suc (suc (suc zero))) h = refl
keep_at (suc (suc (suc (suc zero)))) h = refl
keep_at (suc (suc (suc (suc (suc zero))))) h = refl
keep_at (suc (suc (suc (suc (suc (suc zero)))))) h = refl
keep_at (suc (suc (suc (suc (suc (suc (suc zero))))))) h = refl
keep_at (suc (suc (suc (suc (suc (suc (suc (suc v)))))))) h = absurd (omega arith)

keep-value : (v : ℕ) (x : List ℤ) → v < 8 → row_value (get_or keep_rows v no_row) x ≡ get_or x v (pos 0)
keep-value v x h = ap (λ (r : Row). row_value r x) (keep_at v h) ∙ rw (unit_value 8 v (pos 1) x h) (equal (num 1 ⊗ var (get_or x v (pos 0)) ⊕ num 0) (var (get_or x v (pos 0))) (omega arith))

assigned-length : (rs : List Row) (ss : List Assignment) → length (assigned rs ss) ≡ length rs
unfolding assigned
assigned-length rs [] = refl
assigned-length rs (a ∷ ss) = assigned-length (set rs a.variable a.row) ss ∙ length-set rs a.variable a.row

module _ (vars v : ℕ) where
  -- assignments to later variables leave a row
  row-left : (k : ℕ) (rs : List Row) (ss : List Assignment) → Rising vars k ss → v < k → get_or (assigned rs ss) v no_row ≡ get_or rs v no_row
  unfolding assigned
  row-left k rs [] p h = refl
  row-left k rs (a ∷ ss) p h =
      let from = p.0.from in
      row-left (suc a.variable) (set rs a.variable a.row) ss p.1 (omega arith) ∙ get_or-set_other rs a.variable v a.row no_row (λ e. omega arith)

  row-value : (x : List ℤ) (k : ℕ) (rs : List Row) (ss : List Assignment) → Rising vars k ss → v < length rs → row_value (get_or rs v no_row) x ≡ get_or x v (pos 0)
      → row_value (get_or (assigned rs ss) v no_row) x ≡ new_value ss x v
  unfolding assigned new_value
  row-value x k rs [] p l e = e
  row-value x k rs (a ∷ ss) p l e =
      let us = set rs a.variable a.row in
      elim (ℕ_discrete a.variable v) [
        | yes q ↦ rw (eq-eqb a.variable v q) (ap (λ (r : Row). row_value r x)
            (row-left (suc a.variable) us ss p.1 (omega arith) ∙ ap (λ (n : ℕ). get_or (set rs n a.row) v no_row) q ∙ get_or-set_same rs v a.row no_row l))
        | no q ↦ rw (ne_eqb a.variable v q) (row-value x (suc a.variable) us ss p.1 (rw (length-set rs a.variable a.row) l)
            (ap (λ (r : Row). row_value r x) (get_or-set_other rs a.variable v a.row no_row (λ w. q (sym w))) ∙ e))
      ]

-- ---- a state with zeros behind it
zeros-behind : (s : List ℤ) (n v : ℕ) → length s ≤ v → get_or (s ++ replicate n (pos 0)) v (pos 0) ≡ pos 0
zeros-behind [] n v h = every-copy (λ z. z ≡ pos 0) (pos 0) n (pos 0) refl refl v
zeros-behind (x ∷ s) n zero h = absurd (not-suc-le-zero h)
zeros-behind (x ∷ s) n (suc v) h = zeros-behind s n v (le_of_suc-le-suc h)

new-padded : (ss : List Assignment) (s : List ℤ) (n v : ℕ) → v < length s → new_value ss (s ++ replicate n (pos 0)) v ≡ new_value ss s v
unfolding new_value
new-padded [] s n v h = get_or-append s (replicate n (pos 0)) (pos 0) v h
new-padded (a ∷ ss) s n v h = rw (value-padded a.row s n, new-padded ss s n v h) refl

new-behind : (vars k : ℕ) (ss : List Assignment) (s : List ℤ) (n v : ℕ) → Rising vars k ss → vars ≤ v → length s ≤ v → new_value ss (s ++ replicate n (pos 0)) v ≡ pos 0
unfolding new_value
new-behind vars k [] s n v p l h = zeros-behind s n v h
new-behind vars k (a ∷ ss) s n v p l h =
    let below = p.0.below in
    rw (ne_eqb a.variable v (λ e. omega arith)) (new-behind vars (suc a.variable) ss s n v p.1 l h)

pub length-padded : (s : List ℤ) → length s ≤ 8 → length (padded s) ≡ 8
length-padded s h = simp (length-append, length-replicate) (omega arith)

-- what the eight rows are worth at a padded state is the padded state afterwards
module _ (vars : ℕ) (ss : List Assignment) (rising : Rising vars 0 ss) (s : List ℤ) (l : length s ≡ vars) (few : vars ≤ 8) where
  abbrev t : List ℤ
  t = values_from (new_value ss s) 0 (length s)

  long : length t ≡ length s
  long = values_length (new_value ss s) 0 (length s)

  at_value : (v : ℕ) → new_value ss (padded s) v ≡ get_or (padded t) v (pos 0)
  at_value v = elim (dec_lt v (length s)) [
    | yes h ↦ new-padded ss s (8 - length s) v h ∙ sym (get_or-append t (replicate (8 - length t) (pos 0)) (pos 0) v (rw long h) ∙ value-at (new_value ss s) (length s) v h)
    | no h ↦ new-behind vars 0 ss s (8 - length s) v rising (omega arith) (omega arith) ∙ sym (zeros-behind t (8 - length t) v (rw long (omega arith)))
  ]

  pub new-values : map (λ r. row_value r (padded s)) (assigned keep_rows ss) ≡ padded t
  new-values =
      let rs = assigned keep_rows ss in
      let n = assigned-length keep_rows ss in
      let m = length-map rs (λ r. row_value r (padded s)) in
      ext_get_or (pos 0) (map (λ r. row_value r (padded s)) rs) (padded t) (m ∙ n ∙ sym (length-padded t (omega (arith, long))))
      (λ v h. let b : v < 8 = omega arith in
      get_d_mapped (λ r. row_value r (padded s)) rs v no_row (pos 0) (omega arith) ∙ row-value vars v (padded s) 0 keep_rows ss rising b (keep-value v (padded s) b) ∙ at_value v)
