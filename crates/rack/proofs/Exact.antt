-- What the rack stores is the exact new state, each value modulo 65,536 and read as two's complement.
use mathlib.Core.Path.{◌≡◌, refl, sym, subst}
use mathlib.Core.Bool.{Bool, true, false, cond}
use mathlib.Core.List.{List, [], ◌∷◌, map, append-nil}
use Prim.Native.Nat.{ℕ, zero, suc}
use native.Mathlib.Omega.{arith}
use lib.Dec.{eqb}
use lib.IntN.{ℤ, pos, negsuc}
use lib.ListN.{length, get_or}
use mir.Syntax.{w32}
use mir.Val.{SFits}
use Rattle.integers.proofs.Int.{up, dn, num, var, below, fitting, le_in}
use Rattle.integers.proofs.Laws.{Within, within_in}
use Rattle.words.specs.Words.{signed}
use Rattle.words.proofs.Laws.{signed-between}
use Rattle.rows.specs.declared.Row.{Row}
use Rattle.rows.specs.Rows.{row_value}
use Rattle.rows.specs.Bounds.{AllWithin, max_state}
use Rattle.rows.proofs.Laws.{Between, between_in}
use Rattle.grammar.specs.Programs.{Assignment, Action, Program}
use Rattle.grammar.specs.WellFormed.{Each, WellFormed}
use Rattle.runs.specs.Runs.{Inside, values_from, new_value, new_state}
use Rattle.runs.proofs.Sizes.{state-small}
use Rattle.sixteen.specs.Sixteen.{in16, cut, wrapped_sum, wrapped_dot, wrapped_value}
use Rattle.sixteen.proofs.Laws.{cut_below, wrapped_exact, signed_cut}
use Rattle.rack.specs.Rack.{rack_value, rack_state}

-- a number in sixteen bits, read back
abbrev pub kept : ℤ → ℤ
kept z = signed 16 (cut z)

-- sixteen bits hold every value of a state
abbrev pub Held : List ℤ → Type 0
Held s = Each (λ z. in16 z ≡ true) s

held_at : (s : List ℤ) (v : ℕ) → Held s → kept (get_or s v (pos 0)) ≡ get_or s v (pos 0)
held_at [] v h = refl
held_at (x ∷ s) zero h = signed_cut x h.0
held_at (x ∷ s) (suc v) h = held_at s v h.1

pub held_same : (s : List ℤ) → Held s → map kept s ≡ s
held_same [] h = refl
held_same (x ∷ s) h = rw (held_at (x ∷ s) zero h, held_same s h.1) refl

value-kept : (ss : List Assignment) (s : List ℤ) (v : ℕ) → Held s → rack_value ss s v ≡ kept (new_value ss s v)
unfolding rack_value new_value
value-kept [] s v h = sym (held_at s v h)
value-kept (x ∷ xs) s v h = pick (eqb x.variable v) (value-kept xs s v h)
  where
    pick : (b : Bool) → rack_value xs s v ≡ kept (new_value xs s v) → cond b (wrapped_value x.row (map cut s)) (rack_value xs s v) ≡ kept (cond b (row_value x.row s) (new_value xs s v))
    pick true e = wrapped_exact x.row s
    pick false e = e

values-kept : (f g : ℕ → ℤ) (v n : ℕ) → ((k : ℕ) → f k ≡ kept (g k)) → values_from f v n ≡ map kept (values_from g v n)
unfolding values_from
values-kept f g v zero h = refl
values-kept f g v (suc n) h = rw (h v, values-kept f g (suc v) n h) refl

pub state-kept : (a : Action) (s : List ℤ) → Held s → rack_state a s ≡ map kept (new_state a s)
state-kept a s h = values-kept (rack_value a.sets s) (new_value a.sets s) 0 (length s) (λ v. value-kept a.sets s v h)

-- ---- what sixteen bits hold
within_held : {z : ℤ} → Within max_state z → in16 z ≡ true
unfolding up dn
within_held {z} h = let x = within_in h in between_in (negsuc 32767) (pos 32767) z (below (var (negsuc 32767)) (var z) (omega arith), below (var z) (num 32767) (omega arith))

each-held : (s : List ℤ) → ((v : ℕ) → Within max_state (get_or s v (pos 0))) → Held s
each-held [] h = tt
each-held (x ∷ s) h = (within_held (h 0), each-held s (λ v. h (suc v)))

-- every value of a state in the ranges
pub inside-held : (p : Program) → WellFormed p → (s : List ℤ) → Inside p s → Held s
inside-held p good s h =
    each-held s (subst (AllWithin max_state) (append-nil s) (state-small p.ranges s 0 good.ranges.each h.long (omega (arith, h.none-off))))

-- and every value that the rack stores
wrapped_between : (r : Row) (held : List ℕ) → Between (negsuc 32767) (pos 32767) (wrapped_value r held)
wrapped_between r held = signed-between 16 refl (wrapped_sum (wrapped_dot 0 r.coef held) (cut r.constant)) (omega arith)

pub wrapped_fits : (r : Row) (held : List ℕ) → SFits w32 (wrapped_value r held)
unfolding up dn
wrapped_fits r held = let (l, h) = wrapped_between r held in fitting w32 (var (wrapped_value r held)) (omega (arith, le_in h)) (omega (arith, le_in l))

kept-held : (xs : List ℤ) → Held (map kept xs)
kept-held [] = tt
kept-held (x ∷ xs) = (between_in (negsuc 32767) (pos 32767) (kept x) (signed-between 16 refl (cut x) (cut_below x)), kept-held xs)

pub state-held : (a : Action) (s : List ℤ) → Held s → Held (rack_state a s)
state-held a s h = rw (state-kept a s h) (kept-held (new_state a s))
