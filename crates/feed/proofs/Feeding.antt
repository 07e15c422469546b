-- The steps, fed the words of a list, give the grammar's row.
use mathlib.Core.Path.{◌≡◌, refl, sym, ap, ◌∙◌}
use mathlib.Core.Bool.{Bool, true, false}
use mathlib.Core.List.{List, [], ◌∷◌, ◌++◌}
use Prim.Native.Nat.{ℕ, zero, suc, ◌+◌, ◌-◌, ◌≤◌, ◌<◌}
use native.Mathlib.Omega.{arith}
use native.Mathlib.Nat.{sub-zero, zero-add}
use lib.Dec.{eqb}
use lib.IntN.{ℤ, pos}
use lib.ListN.{length, get_or, set, drop, replicate}
use lib.Seq.{sets, sets-eq, set-get_or, get_or-set_other}
use borrow.Author.Tests.{eqb-true}
use Rattle.words.specs.Words.{bits, kind_of, ROW, TERM}
use Rattle.grammar.specs.Reading.{Read, got, refused, one, due, begins, after, pure}
use Rattle.grammar.specs.Grammar.{coefs, coefficient, constant_of, constant_allowed, row_of, row}
use Rattle.grammar.proofs.TermLaws.{term_allowed, no_terms, unnamed-term, refused-term, taken-term}
use Rattle.grammar.proofs.RowLaws.{coefs_out}
use Rattle.rows.specs.declared.Row.{Row}
use Rattle.feed.specs.declared.Kept.{Kept}
use Rattle.feed.specs.Steps.{place, after_row, after_term, fed, begun}
use Rattle.feed.specs.Answers.{held}
use Rattle.feed.proofs.Laws as steps

-- ---- zeros, stored
module _ (c : List ℤ) (low : ℕ) where
  abbrev ZeroFrom : Type 0
  ZeroFrom = (k : ℕ) → low ≤ k → get_or c k (pos 0) ≡ pos 0

zero_same : (c : List ℤ) (low : ℕ) → ZeroFrom c low → set c low (pos 0) ≡ c
zero_same c low h = rw (← h low (omega arith)) (set-get_or c low (pos 0))

sets-zeros : (c : List ℤ) (low m : ℕ) → ZeroFrom c low → sets c low (replicate m (pos 0)) ≡ c
sets-zeros c low zero h = refl
sets-zeros c low (suc m) h = ap (λ (d : List ℤ). sets d (suc low) (replicate m (pos 0))) (zero_same c low h) ∙ sets-zeros c (suc low) m (λ k l. h k (omega arith))

sets_skip : (c : List ℤ) (low d at : ℕ) (xs : List ℤ) → low + d ≡ at → ZeroFrom c low → sets c low (replicate d (pos 0) ++ xs) ≡ sets c at xs
sets_skip c low zero at xs e h = let same : low ≡ at = omega arith in rw same refl
sets_skip c low (suc d) at xs e h =
    ap (λ (x : List ℤ). sets x (suc low) (replicate d (pos 0) ++ xs)) (zero_same c low h) ∙ sets_skip c (suc low) d at xs (omega arith) (λ k l. h k (omega arith))

zero-after : (c : List ℤ) (low v : ℕ) (x : ℤ) → ZeroFrom c low → low ≤ v → ZeroFrom (set c v x) (suc v)
zero-after c low v x h l k m = get_or-set_other c v k x (pos 0) (λ e. omega arith) ∙ h k (omega arith)

get_d_zeros : (n k : ℕ) → get_or (replicate n (pos 0)) k (pos 0) ≡ pos 0
get_d_zeros zero k = refl
get_d_zeros (suc n) zero = refl
get_d_zeros (suc n) (suc k) = get_d_zeros n k

drop-zeros : (n k : ℕ) → drop k (replicate n (pos 0)) ≡ replicate (n - k) (pos 0)
drop-zeros n zero = rw (sub-zero n) refl
drop-zeros zero (suc k) = let e : 0 - suc k ≡ 0 = omega arith in rw e refl
drop-zeros (suc n) (suc k) = let e : suc n - suc k ≡ n - k = omega arith in drop-zeros n k ∙ ap (λ (m : ℕ). replicate m (pos 0)) (sym e)

-- ---- the row of the coefficients that are stored, with those that are read put behind
abbrev filled : List ℤ → ℕ → ℤ → Read (List ℤ) → Read Row
filled c low k (got cs ws i) = got (record { coef = sets c low cs; constant = k }) ws i
filled c low k (refused r) = refused r

-- zeros for the variables left out, the coefficient, and the rest
filled-turn : (c : List ℤ) (low v : ℕ) (x k : ℤ) (m : Read (List ℤ)) → ZeroFrom c low → low ≤ v
    → filled c low k (after m (λ cs. pure (replicate (v - low) (pos 0) ++ (x ∷ cs)))) ≡ filled (set c v x) (suc v) k m
filled-turn c low v x k (got cs us i) h l = ap (λ (y : List ℤ). got (record { coef = y; constant = k }) us i) (sets_skip c low (v - low) v (x ∷ cs) (omega arith) h)
filled-turn c low v x k (refused r) h l = refl

filled_none : (c : List ℤ) (low n : ℕ) (k : ℤ) (ws : List ℕ) (i : ℕ) → ZeroFrom c low → begins TERM ws ≡ false
    → filled c low k (coefs n low ws i) ≡ got (record { coef = c; constant = k }) ws i
filled_none c low n k ws i h none = rw (no_terms n low ws i none) (ap (λ (y : List ℤ). got (record { coef = y; constant = k }) ws i) (sets-zeros c low n h))

-- from the start of a row: the rest of the eight are zeros
filled_row : (vars : ℕ) (k : ℤ) (m : Read (List ℤ)) → vars ≤ 8 → ((cs : List ℤ) (vs : List ℕ) (i : ℕ) → m ≡ got cs vs i → length cs ≡ vars)
    → filled (replicate 8 (pos 0)) 0 k m ≡ after m (λ cs. pure (row_of vars k cs))
filled_row vars k (got cs vs i) few long =
    let l = long cs vs i refl in
    let f = sets-eq cs (replicate 8 (pos 0)) 0 (omega arith) in
    let g : drop (0 + length cs) (replicate 8 (pos 0)) ≡ replicate (8 - vars) (pos 0) = rw (zero-add (length cs), l) (drop-zeros 8 vars) in
    ap (λ (y : List ℤ). got (record { coef = y; constant = k }) vs i) (f ∙ ap (λ (y : List ℤ). cs ++ y) g)
filled_row vars k (refused r) few long = refl

-- ---- after the ROW
-- the record stands for the coefficients below `low`
record Going (k : Kept) (c : List ℤ) : Type 0 where
  some : 0 < k.taken
  room : k.low ≤ k.vars
  zeros : ZeroFrom c k.low

abbrev awaited : Kept → List ℤ → List ℕ → Read Row
awaited k c ws = filled c k.low k.constant (coefs (k.vars - k.low) k.low ws (place k))

going_term : (k : Kept) (c : List ℤ) (w : ℕ) → Going k c → term_allowed k.low k.vars w ≡ true
    → Going (after_term (held k c) w).kept (after_term (held k c) w).coef
going_term k c w g a =
    let (l, u) = steps.allowed_between k.low k.vars w a in
    record { some = omega arith; room = u; zeros = zero-after c k.low (bits 27 24 w) (coefficient w) g.zeros l }

module _ (w : ℕ) (ws : List ℕ) (rec : (k : Kept) (c : List ℤ) → Going k c → fed (held k c) ws ≡ awaited k c ws) (k : Kept) (c : List ℤ) (g : Going k c) where
  -- a TERM, by its tests
  fed-term : eqb (kind_of w) TERM ≡ true → (n a : Bool) → eqb (bits 23 16 w) 0 ≡ n → term_allowed k.low k.vars w ≡ a → fed (held k c) (w ∷ ws) ≡ awaited k c (w ∷ ws)
  unfolding fed
  fed-term kind false a p q = rw (steps.unnamed-term k c g.some w kind p, unnamed-term w ws (place k) (eqb-true (kind_of w) TERM kind) (k.vars - k.low) k.low p) refl
  fed-term kind true false p q =
      rw (
        steps.bad-term k c g.some w kind p q,
        refused-term w ws (place k) (eqb-true (kind_of w) TERM kind) p (k.vars - k.low) k.low k.vars (omega (arith, g.room)) q,
      ) refl
  fed-term kind true true p q =
      let h = after_term (held k c) w in
      let place-next : k.from + suc k.taken ≡ suc (place k) = omega arith in
      let l = (steps.allowed_between k.low k.vars w q).0 in
      let e = taken-term w ws (place k) (eqb-true (kind_of w) TERM kind) p (k.vars - k.low) k.low k.vars (omega (arith, g.room)) q in
      let first : fed (held k c) (w ∷ ws) ≡ fed h ws = rw (steps.good-term k c g.some w kind p q) refl in
      let next : awaited h.kept h.coef ws ≡ awaited k c (w ∷ ws) =
      rw (e, place-next) (sym (filled-turn c k.low (bits 27 24 w) (coefficient w) k.constant (coefs (k.vars - suc (bits 27 24 w)) (suc (bits 27 24 w)) ws (suc (place k))) g.zeros l)) in
      first ∙ rec h.kept h.coef (going_term k c w g q) ∙ next

  fed-word : (b : Bool) → eqb (kind_of w) TERM ≡ b → fed (held k c) (w ∷ ws) ≡ awaited k c (w ∷ ws)
  unfolding fed
  fed-word true e = fed-term e (eqb (bits 23 16 w) 0) (term_allowed k.low k.vars w) refl refl
  fed-word false e = rw (steps.other-later k c g.some w e) (sym (filled_none c k.low (k.vars - k.low) k.constant (w ∷ ws) (place k) g.zeros e))

fed_terms : (ws : List ℕ) (k : Kept) (c : List ℤ) → Going k c → fed (held k c) ws ≡ awaited k c ws
unfolding fed
fed_terms [] k c g = rw (steps.end_later k c g.some) (sym (filled_none c k.low (k.vars - k.low) k.constant [] (place k) g.zeros refl))
fed_terms (w ∷ ws) k c g = fed-word w ws (fed_terms ws) k c g (eqb (kind_of w) TERM) refl

-- ---- from the ROW
module _ (vars : ℕ) (few : vars ≤ 8) (i : ℕ) where
  abbrev start : Kept
  start = (begun vars i).kept

  abbrev zeros : List ℤ
  zeros = replicate 8 (pos 0)

  module _ (w : ℕ) (ws : List ℕ) where
    fed-first : (b a : Bool) → eqb (kind_of w) ROW ≡ b → constant_allowed w ≡ a → fed (begun vars i) (w ∷ ws) ≡ row vars (w ∷ ws) i
    unfolding fed row one due
    fed-first false a p q = rw (steps.other-first start zeros refl w p, p) refl
    fed-first true false p q = rw (steps.bad-row start zeros refl w p q, p, q) refl
    fed-first true true p q =
        let h = after_row (begun vars i) w in
        let place-next : i + 1 ≡ suc i = omega arith in
        let first : fed (begun vars i) (w ∷ ws) ≡ fed h ws = rw (steps.good-row start zeros refl w p q) refl in
        let g : Going h.kept zeros = record { some = omega arith; room = omega arith; zeros = λ k l. get_d_zeros 8 k } in
        let e = fed_terms ws h.kept zeros g in
        let f = filled_row vars (constant_of w) (coefs vars 0 ws (suc i)) few (λ cs vs j q. (coefs_out vars 0 ws (suc i) cs vs j q).good.0) in
        first ∙ e ∙ rw (place-next, sub-zero vars, f, p, q) refl

  -- for any list of words: what the steps give is what the grammar's reader of a row gives, the words that are left and the refusal included
  pub fed-row : (ws : List ℕ) → fed (begun vars i) ws ≡ row vars ws i
  unfolding fed row one
  fed-row [] = rw (steps.end-first start zeros refl) refl
  fed-row (w ∷ ws) = fed-first w ws (eqb (kind_of w) ROW) (constant_allowed w) refl refl
