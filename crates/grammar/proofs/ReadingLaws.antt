use mathlib.Core.Path.{◌≡◌, refl, sym, ap, ◌∙◌, subst}
use mathlib.Core.Bool.{Bool, true, false, cond}
use mathlib.Core.Logic.{◌⊎◌, inl, inr, ⊎_elim}
use native.Mathlib.Nat.{not-suc-le-zero, le_of_suc-le-suc}
use mathlib.Core.List.{List, [], ◌∷◌, ◌++◌, append_assoc}
use Prim.Native.Nat.{ℕ, zero, suc, ◌+◌, ◌≤◌}
use native.Mathlib.Omega.{arith}
use lib.ListN.{length, length-append}
use borrow.Author.Tests.{eqb-true, eq-eqb}
use Rattle.integers.proofs.Tests.{and-true}
use Rattle.words.specs.Words.{kind_of, TERM}
use Rattle.words.specs.declared.Refusal.{Refusal}
use Rattle.grammar.specs.Reading.{Read, Reader, got, refused, pure, after, ◌>>=◌, due, one, begins, times, many}
use Rattle.grammar.specs.Encoding.{concat}
use Rattle.grammar.specs.WellFormed.{Each, Few}

-- ---- what a result tells
module _ {A : Type 0} where
  pub not-got : {r : Refusal} {a : A} {ws : List ℕ} {i : ℕ} → refused r ≡ got a ws i → ⊥
  not-got e = let z : ◌≡◌ {A = ℕ} 0 1 = cc in omega arith

  pub due-got : (b : Bool) (r : Refusal) (x : Read A) {a : A} {ws : List ℕ} {i : ℕ} → due b r x ≡ got a ws i → (b ≡ true) × (x ≡ got a ws i)
  unfolding due
  due-got true r x e = (refl, e)
  due-got false r x e = absurd (not-got e)

module _ {A B : Type 0} where
  -- a result of two steps has a result of the first
  pub bound : (m : Read A) (f : A → Reader B) {b : B} {vs : List ℕ} {j : ℕ} {R : Type 0} → after m f ≡ got b vs j
      → ((a : A) (us : List ℕ) (k : ℕ) → m ≡ got a us k → f a us k ≡ got b vs j → R) → R
  bound (got a us k) f h g = g a us k refl h
  bound (refused r) f h g = absurd (not-got h)

-- ---- one word
pub record OneGot (kind : ℕ) (named within allowed : ℕ → Bool) (ws : List ℕ) (i w : ℕ) (vs : List ℕ) (j : ℕ) : Type 0 where
  pub words : ws ≡ w ∷ vs
  pub place : j ≡ i + 1
  pub kind_is : kind_of w ≡ kind
  pub named-is : named w ≡ true
  pub within-is : within w ≡ true
  pub allowed_is : allowed w ≡ true

module _ (kind : ℕ) (named within allowed : ℕ → Bool) where
  pub one_out : (ws : List ℕ) (i w : ℕ) (vs : List ℕ) (j : ℕ) → one kind named within allowed ws i ≡ got w vs j → OneGot kind named within allowed ws i w vs j
  unfolding one
  one_out [] i w vs j e = absurd (not-got e)
  one_out (u ∷ us) i w vs j e =
      let (p, e₁) = due-got _ _ _ e in
      let (q, e₂) = due-got _ _ _ e₁ in
      let (r, e₃) = due-got _ _ _ e₂ in
      let (s, t) = and-true _ _ p in
      let same : u ≡ w = cc in
      let rest : us ≡ vs = cc in
      let next : suc i ≡ j = cc in
      record {
        words = cc;
        place = omega arith;
        kind_is = rw same at (eqb-true (kind_of u) kind s);
        named-is = rw same at t;
        within-is = rw same at q;
        allowed_is = rw same at r;
      }

  pub one_in : (w : ℕ) (vs : List ℕ) (i : ℕ) → kind_of w ≡ kind → named w ≡ true → within w ≡ true → allowed w ≡ true
      → one kind named within allowed (w ∷ vs) i ≡ got w vs (suc i)
  unfolding one due
  one_in w vs i a b c d = rw (eq-eqb (kind_of w) kind a, b, c, d) refl

-- ---- a reader and the words of what it reads
module _ {A : Type 0} where
  -- the words read are those of the value, which is good
  pub record Taken (e : A → List ℕ) (P : A → Type 0) (ws : List ℕ) (i : ℕ) (a : A) (vs : List ℕ) (j : ℕ) : Type 0 where
    pub words : ws ≡ e a ++ vs
    pub place : j ≡ i + length (e a)
    pub good : P a

  abbrev TakenOf : (A → List ℕ) → (A → Type 0) → List ℕ → ℕ → Read A → Type 0
  TakenOf e P ws i (got a vs j) = Taken e P ws i a vs j
  TakenOf e P ws i (refused r) = Unit {0}

  pub retaken : {e : A → List ℕ} {P : A → Type 0} {ws : List ℕ} {i : ℕ} {a b : A} {us vs : List ℕ} {j k : ℕ} → Taken e P ws i a us k → got a us k ≡ got b vs j → Taken e P ws i b vs j
  retaken {e} {P} {ws} {i} t h = subst (TakenOf e P ws i) h t

  -- an item of one word
  pub one-taken : (e : A → List ℕ) {P : A → Type 0} {kind : ℕ} {named within allowed : ℕ → Bool} {ws us : List ℕ} {i w k : ℕ} (a : A) → OneGot kind named within allowed ws i w us k
      → w ∷ [] ≡ e a → P a → Taken e P ws i a us k
  one-taken e {us = us} {i = i} a o h p = record { words = o.words ∙ ap (λ (l : List ℕ). l ++ us) h; place = o.place ∙ ap (λ (l : List ℕ). i + length l) h; good = p }

  -- `out`: what is read was the words of a good value. `into`: the words of a good value are read. `head`: they begin with no TERM
  pub record Codec (item : Reader A) (e : A → List ℕ) (P : A → Type 0) : Type 0 where
    pub out : (ws : List ℕ) (i : ℕ) (a : A) (vs : List ℕ) (j : ℕ) → item ws i ≡ got a vs j → Taken e P ws i a vs j
    pub into : (a : A) (vs : List ℕ) (i : ℕ) → P a → begins TERM vs ≡ false → (j : ℕ) × (item (e a ++ vs) i ≡ got a vs j)
    pub head : (a : A) (vs : List ℕ) → P a → begins TERM vs ≡ false → begins TERM (e a ++ vs) ≡ false

module _ {A B : Type 0} {e : A → List ℕ} {f : B → List ℕ} {P : A → Type 0} {Q : B → Type 0} where
  -- one after the other
  pub joined : {ws us vs : List ℕ} {i k j : ℕ} {a : A} {b : B} → Taken e P ws i a us k → Taken f Q us k b vs j → (ws ≡ (e a ++ f b) ++ vs) × (j ≡ i + length (e a ++ f b))
  joined {vs = vs} {a = a} {b} t r =
      let m = length-append (e a) (f b) in
      (t.words ∙ ap (λ (l : List ℕ). e a ++ l) r.words ∙ sym (append_assoc (e a) (f b) vs), omega (arith, t.place, r.place))

module _ {A : Type 0} {item : Reader A} {e : A → List ℕ} {P : A → Type 0} (c : Codec item e P) where
  pub concat-head : (xs : List A) (vs : List ℕ) → Each P xs → begins TERM vs ≡ false → begins TERM (concat e xs ++ vs) ≡ false
  unfolding concat
  concat-head [] vs p h = h
  concat-head (x ∷ xs) vs p h = rw (append_assoc (e x) (concat e xs) vs) (c.head x (concat e xs ++ vs) p.0 (concat-head xs vs p.1 h))

  times-out : (n : ℕ) (ws : List ℕ) (i : ℕ) (xs : List A) (vs : List ℕ) (j : ℕ) → times n item ws i ≡ got xs vs j
      → Taken (concat e) (λ ys. (length ys ≡ n) × Each P ys) ws i xs vs j
  unfolding times concat
  times-out zero ws i xs vs j h = retaken {a = []} (record { words = refl; place = omega arith; good = (refl, tt) }) h
  times-out (suc n) ws i xs vs j h =
      bound (item ws i) _ h (λ x us k e₁ h₁. bound (times n item us k) _ h₁ (λ ys us' k' e₂ h₂.
      let t = c.out ws i x us k e₁ in
      let r = times-out n us k ys us' k' e₂ in
      let m = joined t r in
      retaken {a = x ∷ ys} (record { words = m.0; place = m.1; good = (ap suc r.good.0, (t.good, r.good.1)) }) h₂))

  times-into : (xs : List A) (vs : List ℕ) (i : ℕ) → Each P xs → begins TERM vs ≡ false → (j : ℕ) × (times (length xs) item (concat e xs ++ vs) i ≡ got xs vs j)
  unfolding times concat
  times-into [] vs i p h = (i, refl)
  times-into (x ∷ xs) vs i p h =
      let (k, e₁) = c.into x (concat e xs ++ vs) i p.0 (concat-head xs vs p.1 h) in
      let (j, e₂) = times-into xs vs k p.1 h in
      (j, rw (append_assoc (e x) (concat e xs) vs, e₁, e₂) refl)

  pub times-codec : (n : ℕ) → Codec (times n item) (concat e) (λ xs. (length xs ≡ n) × Each P xs)
  times-codec n =
      record {
        out = times-out n;
        into = λ xs vs i p h. let (j, m) = times-into xs vs i p.1 h in (j, rw p.0 at m);
        head = λ xs vs p h. concat-head xs vs p.1 h;
      }

module _ {A : Type 0} where
  -- a result of an optional item: the item's, or the value for its absence
  pub optional-got : (b : Bool) {x y z : Read A} → cond b x y ≡ z → ((b ≡ true) × (x ≡ z)) ⊎ ((b ≡ false) × (y ≡ z))
  optional-got true h = inl (refl, h)
  optional-got false h = inr (refl, h)

module _ {A : Type 0} (e : A → List ℕ) {P : A → Type 0} where
  none-taken : {n : ℕ} {ws : List ℕ} {i : ℕ} → Taken (concat e) (Few n P) ws i [] ws i
  unfolding concat
  none-taken = record { words = refl; place = omega arith; good = record { few = omega arith; each = tt } }

module _ {A : Type 0} (kind : ℕ) (item : Bool → Reader A) {e : A → List ℕ} {P : A → Type 0} (c : Codec (item true) e P)
    (full : (ws : List ℕ) (i : ℕ) (a : A) (vs : List ℕ) (j : ℕ) → item false ws i ≡ got a vs j → ⊥) where
  more-taken : {n : ℕ} {ws : List ℕ} {i : ℕ} {xs : List A} {vs : List ℕ} {j : ℕ} → (item true >>= λ x. many kind item n >>= λ ys. pure (x ∷ ys)) ws i ≡ got xs vs j
      → ((us : List ℕ) (k : ℕ) (ys : List A) (us' : List ℕ) (k' : ℕ) → many kind item n us k ≡ got ys us' k' → Taken (concat e) (Few n P) us k ys us' k')
      → Taken (concat e) (Few (suc n) P) ws i xs vs j
  unfolding concat
  more-taken {n} {ws} {i} g rec =
      bound (item true ws i) _ g (λ x us k e₁ h₁. bound (many kind item n us k) _ h₁ (λ ys us' k' e₂ h₂.
      let t = c.out ws i x us k e₁ in
      let r = rec us k ys us' k' e₂ in
      let m = joined t r in
      retaken {a = x ∷ ys} (record { words = m.0; place = m.1; good = record { few = omega (arith, r.good.few); each = (t.good, r.good.each) } }) h₂))

  pub many-out : (n : ℕ) (ws : List ℕ) (i : ℕ) (xs : List A) (vs : List ℕ) (j : ℕ) → many kind item n ws i ≡ got xs vs j → Taken (concat e) (Few n P) ws i xs vs j
  unfolding many
  many-out zero ws i xs vs j h =
      ⊎_elim (λ p. bound (item false ws i) _ p.1 (λ x us k e₁ h₁. absurd (full ws i x us k e₁))) (λ p. retaken (none-taken e) p.1)
      (optional-got (begins kind ws) h)
  many-out (suc n) ws i xs vs j h = ⊎_elim (λ p. more-taken p.1 (many-out n)) (λ p. retaken (none-taken e) p.1) (optional-got (begins kind ws) h)

  module _ (starts : (a : A) (vs : List ℕ) → P a → begins kind (e a ++ vs) ≡ true) where
    pub many-into : (n : ℕ) (xs : List A) (vs : List ℕ) (i : ℕ) → length xs ≤ n → Each P xs → begins TERM vs ≡ false → begins kind vs ≡ false
        → (j : ℕ) × (many kind item n (concat e xs ++ vs) i ≡ got xs vs j)
    unfolding many concat
    many-into zero [] vs i l p h s = (i, rw s refl)
    many-into (suc n) [] vs i l p h s = (i, rw s refl)
    many-into zero (x ∷ xs) vs i l p h s = absurd (not-suc-le-zero l)
    many-into (suc n) (x ∷ xs) vs i l p h s =
        let (k, e₁) = c.into x (concat e xs ++ vs) i p.0 (concat-head c xs vs p.1 h) in
        let (j, e₂) = many-into n xs vs k (le_of_suc-le-suc l) p.1 h s in
        (j, rw (append_assoc (e x) (concat e xs) vs, starts x (concat e xs ++ vs) p.0, e₁, e₂) refl)
