-- The coefficients of a row, TERM by TERM: a TERM may leave out variables, which then have coefficient zero.
use mathlib.Core.Path.{◌≡◌, refl, sym, ◌∙◌}
use mathlib.Core.Bool.{Bool, true, false, ◌&&◌}
use mathlib.Core.List.{List, [], ◌∷◌, ◌++◌}
use Prim.Native.Nat.{ℕ, zero, suc, ◌+◌, ◌-◌, ◌<◌}
use native.Mathlib.Omega.{arith}
use lib.Dec.{eqb, ltb, leb}
use lib.IntN.{ℤ, pos}
use lib.ListN.{replicate}
use borrow.Author.Tests.{eqb-true, eqb-false, leb-true, leb-false, le-leb, lt-leb, ltb-true, lt-ltb}
use Rattle.integers.proofs.Tests.{and-true}
use Rattle.words.specs.Words.{bits, kind_of, TERM}
use Rattle.words.specs.declared.Refusal.TheVariants.{Word, Value}
use Rattle.grammar.specs.Reading.{Read, got, refused, due, one, begins, after, pure}
use Rattle.grammar.specs.Grammar.{coefs, coefficient, coefficient_allowed}

-- a TERM whose variable is from v on, below top, with an allowed coefficient
abbrev pub term_allowed : ℕ → ℕ → ℕ → Bool
term_allowed v top w = leb v (bits 27 24 w) && ltb (bits 27 24 w) top && coefficient_allowed w

later-leb : (a b : ℕ) (t : Bool) → leb a b ≡ t → (b ≡ a → ⊥) → leb (suc a) b ≡ t
later-leb a b true e n = le-leb (suc a) b (let l = leb-true a b e in omega arith)
later-leb a b false e n = lt-leb (suc a) b (let l = leb-false a b e in omega arith)

-- the variable v itself, and a later one
here_allowed : (v top w : ℕ) → bits 27 24 w ≡ v → v < top → term_allowed v top w ≡ coefficient_allowed w
here_allowed v top w e h = rw (le-leb v (bits 27 24 w) (omega arith), lt-ltb (bits 27 24 w) top (omega arith)) refl

later_allowed : (v top w : ℕ) → (bits 27 24 w ≡ v → ⊥) → term_allowed (suc v) top w ≡ term_allowed v top w
later_allowed v top w n = rw (later-leb v (bits 27 24 w) (leb v (bits 27 24 w)) refl n) refl

-- no TERM is next: every coefficient that is left is zero
pub no_terms : (n v : ℕ) (ws : List ℕ) (i : ℕ) → begins TERM ws ≡ false → coefs n v ws i ≡ got (replicate n (pos 0)) ws i
unfolding coefs
no_terms zero v ws i h = rw h refl
no_terms (suc n) v [] i h = rw (no_terms n (suc v) [] i h) refl
no_terms (suc n) v (w ∷ ws) i h = rw (h, no_terms n (suc v) (w ∷ ws) i h) refl

module _ (w : ℕ) (ws : List ℕ) (i : ℕ) (kind : kind_of w ≡ TERM) where
  abbrev var : ℕ
  var = bits 27 24 w

  unnamed-step : (n v : ℕ) (b : Bool) → eqb var v ≡ b → eqb (bits 23 16 w) 0 ≡ false → coefs n (suc v) (w ∷ ws) i ≡ refused (Word i) → coefs (suc n) v (w ∷ ws) i ≡ refused (Word i)
  unfolding coefs one due
  unnamed-step n v true e h r = rw (kind, e, h) refl
  unnamed-step n v false e h r = rw (kind, e, r) refl

  -- with an unnamed bit
  pub unnamed-term : (n v : ℕ) → eqb (bits 23 16 w) 0 ≡ false → coefs n v (w ∷ ws) i ≡ refused (Word i)
  unfolding coefs one due
  unnamed-term zero v h = rw (kind, h) refl
  unnamed-term (suc n) v h = unnamed-step n v (eqb var v) refl h (unnamed-term n (suc v) h)

  module _ (named : eqb (bits 23 16 w) 0 ≡ true) where
    refused-step : (n v top : ℕ) (b : Bool) → eqb var v ≡ b → v + suc n ≡ top → term_allowed v top w ≡ false
        → (term_allowed (suc v) top w ≡ false → coefs n (suc v) (w ∷ ws) i ≡ refused (Value i)) → coefs (suc n) v (w ∷ ws) i ≡ refused (Value i)
    unfolding coefs one due
    refused-step n v top true q e h r =
        let bad : coefficient_allowed w ≡ false = sym (here_allowed v top w (eqb-true var v q) (omega arith)) ∙ h in
        rw (kind, q, named, bad) refl
    refused-step n v top false q e h r = rw (kind, q, r (later_allowed v top w (eqb-false var v q) ∙ h)) refl

    -- not allowed
    pub refused-term : (n v top : ℕ) → v + n ≡ top → term_allowed v top w ≡ false → coefs n v (w ∷ ws) i ≡ refused (Value i)
    unfolding coefs one due
    refused-term zero v top e h = rw (kind, named) refl
    refused-term (suc n) v top e h = refused-step n v top (eqb var v) refl e h (refused-term n (suc v) top (omega arith))

    -- the rest after a TERM that is taken: zeros for the variables left out, the coefficient, and what follows
    abbrev rest : ℕ → ℕ → Read (List ℤ)
    rest v top = after (coefs (top - suc var) (suc var) ws (suc i)) (λ cs. pure (replicate (var - v) (pos 0) ++ (coefficient w ∷ cs)))

    taken_step : (n v top : ℕ) (b : Bool) → eqb var v ≡ b → v + suc n ≡ top → term_allowed v top w ≡ true
        → (term_allowed (suc v) top w ≡ true → coefs n (suc v) (w ∷ ws) i ≡ rest (suc v) top) → coefs (suc n) v (w ∷ ws) i ≡ rest v top
    unfolding coefs one due
    taken_step n v top true q e h r =
        let same : var ≡ v = eqb-true var v q in
        let good : coefficient_allowed w ≡ true = sym (here_allowed v top w same (omega arith)) ∙ h in
        let none : var - v ≡ 0 = omega arith in
        let left : top - suc var ≡ n = omega arith in
        rw (kind, q, named, good, none, left, same) refl
    taken_step n v top false q e h r =
        let apart = eqb-false var v q in
        let allowed = later_allowed v top w apart ∙ h in
        let below = leb-true (suc v) var (and-true _ _ (and-true _ _ allowed).0).0 in
        let more : var - v ≡ suc (var - suc v) = omega arith in
        rw (kind, q, r allowed, more) (zero-first (coefs (top - suc var) (suc var) ws (suc i)) (var - suc v))
      where
        zero-first : (m : Read (List ℤ)) (d : ℕ)
            → after (after m (λ cs. pure (replicate d (pos 0) ++ (coefficient w ∷ cs)))) (λ cs. pure (pos 0 ∷ cs)) ≡ after m (λ cs. pure (replicate (suc d) (pos 0) ++ (coefficient w ∷ cs)))
        zero-first (got cs us k) d = refl
        zero-first (refused x) d = refl

    -- allowed
    pub taken-term : (n v top : ℕ) → v + n ≡ top → term_allowed v top w ≡ true → coefs n v (w ∷ ws) i ≡ rest v top
    taken-term zero v top e h =
        let (p, q) = and-true _ _ (and-true _ _ h).0 in
        let l = leb-true v var p in
        let u = ltb-true var top q in
        absurd (omega arith)
    taken-term (suc n) v top e h = taken_step n v top (eqb var v) refl e h (taken-term n (suc v) top (omega arith))
