-- A row and its words.
use mathlib.Core.Path.{◌≡◌, refl, sym, ap, ◌∙◌, subst}
use mathlib.Core.Bool.{Bool, true, false}
use mathlib.Core.Logic.{⊎_elim}
use mathlib.Core.List.{List, [], ◌∷◌, ◌++◌, append_assoc}
use Prim.Native.Nat.{ℕ, zero, suc, ◌+◌, ◌-◌, ◌*◌, ◌^◌, ◌≤◌, ◌<◌}
use native.Mathlib.Omega.{arith}
use lib.Dec.{eqb}
use lib.IntN.{ℤ, pos, negsuc}
use lib.Signed.{◌≤ℤ◌, le_z_yes}
use Rattle.integers.proofs.Laws.{le_trans}
use lib.ListN.{length, length-append, replicate, take, take-append-drop, length-replicate}
use lib.Seq.{drop_at, length-take-le}
use borrow.Author.Tests.{eqb-true, eq-eqb, ne_eqb}
use Rattle.integers.proofs.Tests.{and-true, not-true}
use Rattle.words.specs.Words.{bits, kind_of, payload, word, signed, unsigned, ROW, TERM}
use Rattle.words.proofs.Laws.{kind_word, payload-word, word_split, signed-unsigned, unsigned_signed, unsigned-lt}
use Rattle.rows.specs.declared.Row.{Row}
use Rattle.grammar.specs.Reading.{got, one, always, begins}
use Rattle.rows.specs.Rows.{between}
use Rattle.rows.proofs.Laws.{Between, between_out}
use Rattle.grammar.specs.Grammar.{term, coefficient, coefficient_allowed, begins_term, coef, coefs, row, row_of, constant_of, constant_allowed}
use Rattle.grammar.specs.Encoding.{encode_coef, encode_coefs, encode_row}
use Rattle.grammar.specs.WellFormed.{Each, RowOk}
use Rattle.grammar.proofs.ReadingLaws.{Codec, Taken, retaken, one-taken, bound, joined, one_out, one_in, optional-got}

-- the bounds of a coefficient
abbrev pub Coef : ℤ → Type 0
Coef c = between (negsuc 999) (pos 1000) c ≡ true

widen : {a b c d z : ℤ} → a ≤ℤ b → c ≤ℤ d → Between b c z → Between a d z
widen h k p = (le_trans h p.0, le_trans p.1 k)

coef-wide : (c : ℤ) → Coef c → Between (negsuc 32767) (pos 32767) c
coef-wide c p = widen (le_z_yes tt) (le_z_yes tt) (between_out (negsuc 999) (pos 1000) c p)

coef-back : (c : ℤ) → Coef c → signed 16 (unsigned 16 c) ≡ c
coef-back c p = let q = coef-wide c p in signed-unsigned 16 refl c q.0 q.1

coef_lt : (c : ℤ) → Coef c → unsigned 16 c < 2 ^ 16
coef_lt c p = let q = coef-wide c p in unsigned-lt 16 refl c q.0 q.1

-- ---- one coefficient
unnamed : ℕ → Bool
unnamed w = eqb (bits 23 16 w) 0

coef-word : (v w : ℕ) → kind_of w ≡ TERM → bits 27 24 w ≡ v → bits 23 16 w ≡ 0 → eqb (bits 15 0 w) 0 ≡ false → w ∷ [] ≡ encode_coef v (coefficient w)
coef-word v w a b c d =
    let x = unsigned_signed 16 refl (bits 15 0 w) (omega arith) in
    let e : w ≡ word TERM (v * 2 ^ 24 + bits 15 0 w) = omega arith in
    rw (x, d) (ap (λ (u : ℕ). u ∷ []) e)

zero-coef : Coef (pos 0)
zero-coef = refl

coef_out : (v : ℕ) (ws : List ℕ) (i : ℕ) (c : ℤ) (vs : List ℕ) (j : ℕ) → coef v ws i ≡ got c vs j → Taken (encode_coef v) Coef ws i c vs j
coef_out v ws i c vs j h =
    ⊎_elim (λ p.
    bound (term coefficient_allowed ws i) _ p.1 (λ w us k e₁ g.
    let o = one_out TERM (λ w. eqb (bits 23 16 w) 0) always coefficient_allowed ws i w us k e₁ in
    let t = subst (λ (l : List ℕ). begins_term v l ≡ true) o.words p.0 in
    let (q, r) = and-true (eqb (kind_of w) TERM) (eqb (bits 27 24 w) v) t in
    let (some, both) = and-true _ _ o.allowed_is in
    let same = coef-word v w o.kind_is (eqb-true (bits 27 24 w) v r) (eqb-true (bits 23 16 w) 0 o.named-is) (not-true _ some) in
    retaken (one-taken (encode_coef v) (coefficient w) o same both) g))
    (λ p. retaken {a = pos 0} (record { words = refl; place = omega arith; good = zero-coef }) p.1) (optional-got (begins_term v ws) h)

-- ---- the coefficients from v on
pub coefs_out : (n v : ℕ) (ws : List ℕ) (i : ℕ) (cs : List ℤ) (vs : List ℕ) (j : ℕ) → coefs n v ws i ≡ got cs vs j
    → Taken (encode_coefs v) (λ ys. (length ys ≡ n) × Each Coef ys) ws i cs vs j
unfolding coefs encode_coefs
coefs_out zero v ws i cs vs j h =
    ⊎_elim (λ p.
    bound (term (λ w. false) ws i) _ p.1 (λ w us k e₁ g.
    let o = one_out TERM (λ w. eqb (bits 23 16 w) 0) always (λ w. false) ws i w us k e₁ in
    let z : ◌≡◌ {A = ℕ} 0 1 = cc o.allowed_is in
    absurd (omega arith)))
    (λ p. retaken {a = []} (record { words = refl; place = omega arith; good = (refl, tt) }) p.1) (optional-got (begins TERM ws) h)
coefs_out (suc n) v ws i cs vs j h =
    bound (coef v ws i) _ h (λ c us k e₁ h₁. bound (coefs n (suc v) us k) _ h₁ (λ ds us' k' e₂ h₂.
    let t = coef_out v ws i c us k e₁ in
    let r = coefs_out n (suc v) us k ds us' k' e₂ in
    let m = joined t r in
    retaken {a = c ∷ ds} (record { words = m.0; place = m.1; good = (ap suc r.good.0, (t.good, r.good.1)) }) h₂))

-- ---- the words of coefficients are read back
module _ (v : ℕ) (c : ℤ) (ok : Coef c) (low : v < 16) where
  abbrev term-word : ℕ
  term-word = word TERM (v * 2 ^ 24 + unsigned 16 c)

  pub term-kind : kind_of term-word ≡ TERM
  term-kind = let l = coef_lt c ok in omega arith

  term-variable : bits 27 24 term-word ≡ v
  term-variable = let l = coef_lt c ok in omega arith

  term-named : bits 23 16 term-word ≡ 0
  term-named = let l = coef_lt c ok in omega arith

  term-bits : bits 15 0 term-word ≡ unsigned 16 c
  term-bits = let l = coef_lt c ok in omega arith

  term-coefficient : coefficient term-word ≡ c
  term-coefficient = ap (signed 16) term-bits ∙ coef-back c ok

  term-allowed : eqb (unsigned 16 c) 0 ≡ false → coefficient_allowed term-word ≡ true
  term-allowed h =
      let e : eqb (bits 15 0 term-word) 0 ≡ false = ap (λ (n : ℕ). eqb n 0) term-bits ∙ h in
      let b : between (negsuc 999) (pos 1000) (coefficient term-word) ≡ true = ap (between (negsuc 999) (pos 1000)) term-coefficient ∙ ok in
      rw e b

  coef-into : (vs : List ℕ) (i : ℕ) (b : Bool) → eqb (unsigned 16 c) 0 ≡ b → begins_term v vs ≡ false → (j : ℕ) × (coef v (encode_coef v c ++ vs) i ≡ got c vs j)
  coef-into vs i true e h =
      let same : pos 0 ≡ c = ap (signed 16) (sym (eqb-true (unsigned 16 c) 0 e)) ∙ coef-back c ok in
      (i, rw (e, h) (ap (λ (z : ℤ). got z vs i) same))
  coef-into vs i false e h = (
    suc i,
    rw (
      e,
      term-kind,
      eq-eqb (bits 27 24 term-word) v term-variable,
      one_in TERM (λ w. eqb (bits 23 16 w) 0) always coefficient_allowed term-word vs i term-kind (eq-eqb (bits 23 16 term-word) 0 term-named) refl (term-allowed e),
    )
        (ap (λ (z : ℤ). got z vs (suc i)) term-coefficient),
  )

not-term : (v : ℕ) (vs : List ℕ) → begins TERM vs ≡ false → begins_term v vs ≡ false
not-term v [] h = refl
not-term v (w ∷ ws) h = rw h refl

-- no word of the coefficients of later variables is a TERM of v
later : (v u : ℕ) (cs : List ℤ) (vs : List ℕ) → v < u → u + length cs ≤ 16 → Each Coef cs → begins TERM vs ≡ false → begins_term v (encode_coefs u cs ++ vs) ≡ false
unfolding encode_coefs
later v u [] vs l m p h = not-term v vs h
later v u (c ∷ cs) vs l m p h = go (eqb (unsigned 16 c) 0) refl (later v (suc u) cs vs (omega arith) (omega arith) p.1 h)
  where
    go : (b : Bool) → eqb (unsigned 16 c) 0 ≡ b → begins_term v (encode_coefs (suc u) cs ++ vs) ≡ false → begins_term v ((encode_coef u c ++ encode_coefs (suc u) cs) ++ vs) ≡ false
    go true e r = rw e r
    go false e r =
        let low : u < 16 = omega arith in
        let apart : u ≡ v → ⊥ = λ s. omega arith in
        let other : bits 27 24 (term-word u c p.0 low) ≡ u = term-variable u c p.0 low in
        rw (e, term-kind u c p.0 low, other, ne_eqb u v apart) refl

coefs_into : (v : ℕ) (cs : List ℤ) (vs : List ℕ) (i : ℕ) → v + length cs ≤ 16 → Each Coef cs → begins TERM vs ≡ false → (j : ℕ) × (coefs (length cs) v (encode_coefs v cs ++ vs) i ≡ got cs vs j)
unfolding coefs encode_coefs
coefs_into v [] vs i m p h = (i, rw h refl)
coefs_into v (c ∷ cs) vs i m p h =
    let low : v < 16 = omega arith in
    let rest : suc v + length cs ≤ 16 = omega arith in
    let next : v < suc v = omega arith in
    let (k, e₁) = coef-into v c p.0 low (encode_coefs (suc v) cs ++ vs) i (eqb (unsigned 16 c) 0) refl (later v (suc v) cs vs next rest p.1 h) in
    let (j, e₂) = coefs_into (suc v) cs vs k rest p.1 h in
    (j, rw (append_assoc (encode_coef v c) (encode_coefs (suc v) cs) vs, e₁, e₂) refl)

-- ---- coefficients of zero at the end have no words
zeros-none : (v n : ℕ) → encode_coefs v (replicate n (pos 0)) ≡ []
unfolding encode_coefs
zeros-none v zero = refl
zeros-none v (suc n) = zeros-none (suc v) n

padded-same : (v n : ℕ) (cs : List ℤ) → encode_coefs v (cs ++ replicate n (pos 0)) ≡ encode_coefs v cs
unfolding encode_coefs
padded-same v n [] = zeros-none v n
padded-same v n (c ∷ cs) = ap (λ (l : List ℕ). encode_coef v c ++ l) (padded-same (suc v) n cs)

zeros-small : (n : ℕ) → Each Coef (replicate n (pos 0))
zeros-small zero = tt
zeros-small (suc n) = (zero-coef, zeros-small n)

each_append : (xs ys : List ℤ) → Each Coef xs → Each Coef ys → Each Coef (xs ++ ys)
each_append [] ys p q = q
each_append (x ∷ xs) ys p q = (p.0, each_append xs ys p.1 q)

each_take : (n : ℕ) (xs : List ℤ) → Each Coef xs → Each Coef (take n xs)
each_take zero xs p = tt
each_take (suc n) [] p = tt
each_take (suc n) (x ∷ xs) p = (p.0, each_take n xs p.1)

-- ---- a row
constant_wide : (z : ℤ) → between (negsuc 999999) (pos 1000000) z ≡ true → Between (negsuc 134217727) (pos 134217727) z
constant_wide z p = widen (le_z_yes tt) (le_z_yes tt) (between_out (negsuc 999999) (pos 1000000) z p)

constant_lt : (z : ℤ) → between (negsuc 999999) (pos 1000000) z ≡ true → unsigned 28 z < 2 ^ 28
constant_lt z p = let q = constant_wide z p in unsigned-lt 28 refl z q.0 q.1

row_same : (a b : Row) → a.coef ≡ b.coef → a.constant ≡ b.constant → a ≡ b
row_same a b p q = λ i. record { coef = p i; constant = q i }

module _ (vars : ℕ) (few : vars ≤ 8) where
  row_out : (ws : List ℕ) (i : ℕ) (r : Row) (vs : List ℕ) (j : ℕ) → row vars ws i ≡ got r vs j → Taken encode_row (RowOk vars) ws i r vs j
  unfolding row
  row_out ws i r vs j h =
      bound (one ROW always always constant_allowed ws i) _ h (λ w us k e₁ h₁. bound (coefs vars 0 us k) _ h₁ (λ cs us' k' e₂ h₂.
      let o = one_out ROW always always constant_allowed ws i w us k e₁ in
      let t = coefs_out vars 0 us k cs us' k' e₂ in
      let small : payload w < 2 ^ 28 = omega arith in
      let first : w ≡ word ROW (unsigned 28 (constant_of w)) = rw (unsigned_signed 28 refl (payload w) small) (word_split w o.kind_is) in
      let z = padded-same 0 (8 - vars) cs in
      let l = t.good.0 in
      retaken {a = row_of vars (constant_of w) cs} (record {
        words = o.words ∙ rw (← first, z) (ap (λ (l : List ℕ). w ∷ l) t.words);
        place = rw z (omega (arith, o.place, t.place));
        good = record {
          eight = simp (length-append, length-replicate) (omega arith);
          small = each_append cs (replicate (8 - vars) (pos 0)) t.good.1 (zeros-small (8 - vars));
          absent = drop_at cs (replicate (8 - vars) (pos 0)) vars l;
          constant = o.allowed_is;
        };
      }) h₂))

  row-into : (r : Row) (vs : List ℕ) (i : ℕ) → RowOk vars r → begins TERM vs ≡ false → (j : ℕ) × (row vars (encode_row r ++ vs) i ≡ got r vs j)
  unfolding row
  row-into r vs i p h =
      let cs = take vars r.coef in
      let l : length cs ≡ vars = length-take-le vars r.coef (rw p.eight few) in
      let whole : cs ++ replicate (8 - vars) (pos 0) ≡ r.coef = ap (λ (t : List ℤ). cs ++ t) (sym p.absent) ∙ take-append-drop vars r.coef in
      let c = constant_wide r.constant p.constant in
      let lt = constant_lt r.constant p.constant in
      let w = word ROW (unsigned 28 r.constant) in
      let k : constant_of w ≡ r.constant = ap (signed 28) (payload-word ROW (unsigned 28 r.constant) lt) ∙ signed-unsigned 28 refl r.constant c.0 c.1 in
      let b : constant_allowed w ≡ true = ap (between (negsuc 999999) (pos 1000000)) k ∙ p.constant in
      let same : encode_coefs 0 r.coef ≡ encode_coefs 0 cs = ap (encode_coefs 0) (sym whole) ∙ padded-same 0 (8 - vars) cs in
      let (j, e) = coefs_into 0 cs vs (suc i) (omega arith) (each_take vars r.coef p.small) h in
      let e' : coefs vars 0 (encode_coefs 0 r.coef ++ vs) (suc i) ≡ got cs vs j = rw same (subst (λ (m : ℕ). coefs m 0 (encode_coefs 0 cs ++ vs) (suc i) ≡ got cs vs j) l e) in (
        j,
        rw (one_in ROW always always constant_allowed w (encode_coefs 0 r.coef ++ vs) i (kind_word ROW (unsigned 28 r.constant) lt) refl refl b, e')
            (ap (λ (x : Row). got x vs j) (row_same (row_of vars (constant_of w) cs) r whole k)),
      )

  pub row-codec : Codec (row vars) encode_row (RowOk vars)
  row-codec = record { out = row_out; into = row-into; head = λ r vs p h. rw (kind_word ROW (unsigned 28 r.constant) (constant_lt r.constant p.constant)) refl }
