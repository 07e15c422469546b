-- The frame law: a row with a zero coefficient on every variable that is set keeps its value, at any new state that agrees with the old one on the others.
use mathlib.Core.Path.{◌≡◌, refl, sym, ap, ◌∙◌}
use mathlib.Core.Bool.{Bool, true, false, cond, ◌||◌}
use mathlib.Core.Logic.{◌⊎◌, inl, inr, ⊎_elim}
use mathlib.Core.List.{List, [], ◌∷◌}
use Prim.Native.Nat.{ℕ, suc}
use native.Mathlib.Decide.{dec_lt}
use lib.Dec.{eqb, ltb}
use lib.IntN.{ℤ, pos, negsuc, nat_abs, ◌+ℤ◌, ◌*ℤ◌, zero-*ℤ, *ℤ-zero}
use lib.ListN.{length, get_or, get_or-eq_default}
use lib.Signed.{le_z}
use borrow.Author.Tests.{eqb-true, eq-eqb}
use Rattle.integers.proofs.Tests.{and-true, or_true, or_cases, false-true}
use native.Mathlib.Omega.{arith}
use Rattle.rows.specs.declared.Row.{Row}
use Rattle.rows.specs.Rows.{dot, row_value, holds}
use Rattle.grammar.specs.Programs.{Assignment, Action, Program}
use Rattle.runs.specs.Runs.{new_value, new_state, action_of, predicate}
use Rattle.runs.proofs.NewValues.{values_length, value-at}
use Rattle.lemmas.specs.LemmaGrammar.{sets_variable}
use Rattle.frame.specs.Frame.{zero_on, untouched}

zero_is : (z : ℤ) → nat_abs z ≡ 0 → z ≡ pos 0
zero_is (pos n) e = ap pos e
zero_is (negsuc n) e = absurd (omega arith)

-- ---- coefficients that are zero wherever two states differ
Same : List ℤ → List ℤ → List ℤ → Type 0
Same cs s t = (v : ℕ) → (get_or cs v (pos 0) ≡ pos 0) ⊎ (get_or s v (pos 0) ≡ get_or t v (pos 0))

term-same : (c x y : ℤ) → (c ≡ pos 0) ⊎ (x ≡ y) → c *ℤ x ≡ c *ℤ y
term-same c x y (inl e) = rw e (zero-*ℤ x ∙ sym (zero-*ℤ y))
term-same c x y (inr e) = rw e

-- where one state has nothing left
dot-nothing : (cs t : List ℤ) → Same cs [] t → pos 0 ≡ dot cs t
unfolding dot Same
dot-nothing [] t h = refl
dot-nothing (c ∷ cs) [] h = refl
dot-nothing (c ∷ cs) (y ∷ t) h = sym (rw (sym (term-same c (pos 0) y (h 0)), *ℤ-zero c, ← dot-nothing cs t (λ v. h (suc v))) refl)

turned : (cs s t : List ℤ) → Same cs s t → Same cs t s
unfolding Same
turned cs s t h v = ⊎_elim (λ e. inl e) (λ e. inr (sym e)) (h v)

dot-same : (cs s t : List ℤ) → Same cs s t → dot cs s ≡ dot cs t
unfolding dot Same
dot-same [] s t h = refl
dot-same (c ∷ cs) [] t h = dot-nothing (c ∷ cs) t h
dot-same (c ∷ cs) (x ∷ s) [] h = sym (dot-nothing (c ∷ cs) (x ∷ s) (turned (c ∷ cs) (x ∷ s) [] h))
dot-same (c ∷ cs) (x ∷ s) (y ∷ t) h = rw (term-same c x y (h 0), dot-same cs s t (λ v. h (suc v)))

-- ---- the row's coefficients on the variables that are set
abbrev pub Zero : Row → ℕ → Type 0
Zero r v = nat_abs (get_or r.coef v (pos 0)) ≡ 0

pub zero_out : (ss : List Assignment) (r : Row) → zero_on ss r ≡ true → (v : ℕ) → sets_variable ss v ≡ true → Zero r v
unfolding zero_on sets_variable
zero_out [] r z v e = false-true e
zero_out (x ∷ xs) r z v e =
    let here = nat_abs (get_or r.coef x.variable (pos 0)) in
    let (a, b) = and-true (eqb here 0) (zero_on xs r) z in
    ⊎_elim (λ q. rw (← eqb-true x.variable v q) (eqb-true here 0 a)) (zero_out xs r b v) (or_true (eqb x.variable v) (sets_variable xs v) e)

pub zero_in : (ss : List Assignment) (r : Row) → ((v : ℕ) → sets_variable ss v ≡ true → Zero r v) → zero_on ss r ≡ true
unfolding zero_on sets_variable
zero_in [] r h = refl
zero_in (x ∷ xs) r h =
    let here = nat_abs (get_or r.coef x.variable (pos 0)) in
    rw (eq-eqb here 0 (h x.variable (rw (eq-eqb x.variable x.variable refl) refl)), zero_in xs r (λ v e. h v ((or_cases (eqb x.variable v) (sets_variable xs v)).1 (inr e)))) refl

-- two states agree on every variable that the assignments do not set
abbrev pub Agree : List Assignment → List ℤ → List ℤ → Type 0
Agree ss s t = (v : ℕ) → sets_variable ss v ≡ false → get_or t v (pos 0) ≡ get_or s v (pos 0)

pub frame : (ss : List Assignment) (r : Row) (s t : List ℤ) → zero_on ss r ≡ true → Agree ss s t → row_value r t ≡ row_value r s
unfolding Same
frame ss r s t z agree = ap (λ (x : ℤ). x +ℤ r.constant) (dot-same r.coef t s (λ v. go v (sets_variable ss v) refl))
  where
    go : (v : ℕ) (b : Bool) → sets_variable ss v ≡ b → (get_or r.coef v (pos 0) ≡ pos 0) ⊎ (get_or t v (pos 0) ≡ get_or s v (pos 0))
    go v true e = inl (zero_is (get_or r.coef v (pos 0)) (zero_out ss r z v e))
    go v false e = inr (agree v e)

-- ---- the state after an action agrees with the one before on every variable that the action does not set
pub unset_kept : (ss : List Assignment) (s : List ℤ) (v : ℕ) → sets_variable ss v ≡ false → new_value ss s v ≡ get_or s v (pos 0)
unfolding sets_variable new_value
unset_kept [] s v e = refl
unset_kept (x ∷ ss) s v e = go (eqb x.variable v) (unset_kept ss s v) e
  where
    go : (b : Bool) → (sets_variable ss v ≡ false → new_value ss s v ≡ get_or s v (pos 0)) → (b || sets_variable ss v) ≡ false → cond b (row_value x.row s) (new_value ss s v) ≡ get_or s v (pos 0)
    go true rest q = false-true (sym q)
    go false rest q = rest q

after_agrees : (a : Action) (s : List ℤ) → Agree a.sets s (new_state a s)
after_agrees a s v e =
    let f = new_value a.sets s in
    elim (dec_lt v (length s)) [
      | yes l ↦ value-at f (length s) v l ∙ unset_kept a.sets s v e
      | no l ↦ get_or-eq_default (new_state a s) (pos 0) {n = v} (rw (values_length f 0 (length s)) (omega arith)) ∙ sym (get_or-eq_default s (pos 0) {n = v} (omega arith))
    ]

-- so an untouched predicate holds afterwards exactly if it held before
pub untouched-holds : (p : Program) (k j : ℕ) (s : List ℤ) → untouched p k j ≡ true → holds (predicate p j) (new_state (action_of p k) s) ≡ holds (predicate p j) s
untouched-holds p k j s u =
    let a = action_of p k in
    let z = (and-true (ltb k (length p.actions)) (zero_on a.sets (predicate p j)) u).1 in
    ap (le_z (pos 0)) (frame a.sets (predicate p j) s (new_state a s) z (after_agrees a s))
