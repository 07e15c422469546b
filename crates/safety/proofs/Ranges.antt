-- Assignments whose new values are on their ranges leave a state in all ranges.
use mathlib.Core.Path.{◌≡◌, refl, ap, subst, ◌∙◌}
use mathlib.Core.Bool.{true}
use mathlib.Core.Logic.{◌⊎◌, inl, inr, ⊎_elim}
use mathlib.Core.List.{List, [], ◌∷◌}
use Prim.Native.Nat.{ℕ, suc, ◌<◌}
use native.Mathlib.Decide.{ℕ_discrete}
use native.Mathlib.Omega.{arith}
use lib.IntN.{ℤ, pos}
use lib.ListN.{length, get_or}
use borrow.Author.Tests.{ne_eqb}
use Rattle.rows.specs.declared.Range.{Range}
use Rattle.rows.specs.Rows.{zero_range}
use Rattle.grammar.specs.Programs.{Assignment, Action, Program}
use Rattle.grammar.specs.WellFormed.{Each}
use Rattle.runs.specs.Runs.{on_range, lowest_off, Inside, new_value, new_state}
use Rattle.runs.proofs.Trying.{on_range_lem}
use Rattle.runs.proofs.NewValues.{values_length, value-at}

-- a variable is set, or keeps its value
set_or_kept : (P : ℕ → Type 0) (ss : List Assignment) (s : List ℤ) (v : ℕ) → Each (λ x. P x.variable) ss → P v ⊎ (new_value ss s v ≡ get_or s v (pos 0))
unfolding new_value
set_or_kept P [] s v h = inr refl
set_or_kept P (x ∷ ss) s v h = elim (ℕ_discrete x.variable v) [
  | yes e ↦ inl (subst P e h.0)
  | no n ↦ rw (ne_eqb x.variable v n) (set_or_kept P ss s v h.1)
]

none-off : (gs : List Range) (xs : List ℤ) → length xs ≡ length gs → ((v : ℕ) → v < length gs → on_range (get_or gs v zero_range) (get_or xs v (pos 0)) ≡ true) → lowest_off gs xs ≡ length gs
unfolding lowest_off
none-off [] xs l h = refl
none-off (g ∷ gs) [] l h = absurd (omega arith)
none-off (g ∷ gs) (x ∷ xs) l h = rw (h 0 (omega arith)) (ap suc (none-off gs xs (omega arith) (λ v k. h (suc v) (omega arith))))

-- the value of v is on its range
abbrev pub On : Program → List ℤ → ℕ → Type 0
On p t v = on_range (get_or p.ranges v zero_range) (get_or t v (pos 0)) ≡ true

pub stays_inside : (p : Program) (s : List ℤ) → Inside p s → (a : Action) → Each (λ x. On p (new_state a s) x.variable) a.sets → Inside p (new_state a s)
stays_inside p s inside a h =
    let t = new_state a s in
    let f = new_value a.sets s in
    let long = values_length f 0 (length s) ∙ inside.long in
    record {
      long = long;
      none-off = none-off p.ranges t long (λ v l.
          ⊎_elim (λ on. on)
          (λ kept. let same : get_or t v (pos 0) ≡ get_or s v (pos 0) = value-at f (length s) v (rw inside.long l) ∙ kept in
          rw same (on_range_lem p.ranges s v (omega (arith, inside.none-off)) l)) (set_or_kept (On p t) a.sets s v h));
    }
