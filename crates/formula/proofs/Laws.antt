-- What formula (3) gives, over any relations: which literals, and when it is false.
use mathlib.Core.Path.{◌≡◌, refl, sym, ap, ◌∙◌}
use mathlib.Core.Bool.{Bool, true, false, cond}
use mathlib.Core.Logic.{◌⊎◌, inl, inr, ⊎_elim, ◌↔◌}
use mathlib.Core.List.Memᴰ
use mathlib.Core.List.{List, [], ◌∷◌, ◌++◌, Memᴰ}
use Prim.Native.Nat.{ℕ, zero, suc, ◌<◌}
use native.Mathlib.Nat.{not-suc-le-zero, eq-or-lt_of_le, le_of_suc-le-suc}
use native.Mathlib.Omega.{arith}
use Rattle.integers.proofs.Tests.{false-true}
use Rattle.words.specs.LiteralSets.{Literal, B, NotB, predicate_of}
use Rattle.formula.specs.Formula.{Monomial, False, And, Fact, Disabled, and, follows, conjunct, conjuncts, formula3}

-- ---- lists of literals
pub in_append : {l : Literal} (xs : List Literal) {ys : List Literal} → Memᴰ l xs ⊎ Memᴰ l ys → Memᴰ l (xs ++ ys)
in_append [] s = ⊎_elim (λ d. absurd (Memᴰ.not-nil d)) (λ d. d) s
in_append (x ∷ xs) s =
    ⊎_elim (λ d. ⊎_elim (λ q. Memᴰ.head q) (λ q. Memᴰ.tail (in_append xs (inl q))) (Memᴰ.cases_cons d)) (λ d. Memᴰ.tail (in_append xs (inr d))) s

and_inj : {xs ys : List Literal} → And xs ≡ And ys → xs ≡ ys
and_inj e = cc

not-false : {P : Type 0} {xs : List Literal} → False ≡ And xs → P
not-false e = let z : ◌≡◌ {A = ℕ} 0 1 = cc in absurd (omega arith)

-- ---- the conjunction over the predicates
module _ (known : Literal → Bool) where
  -- both literals of a predicate below n are known
  abbrev pub Clash : ℕ → Type 0
  Clash n = (j : ℕ) × (j < n) × (known (B j) ≡ true) × (known (NotB j) ≡ true)

  -- a literal of a predicate below n is known
  abbrev pub Known : ℕ → Literal → Type 0
  Known n m = (predicate_of m < n) × (known m ≡ true)

  -- what the conjunction over n predicates is: false, with a clash; or literals, exactly those known, and no clash
  abbrev Is : ℕ → Monomial → Type 0
  Is n False = Clash n
  Is n (And xs) = ((m : Literal) → Memᴰ m xs ↔ Known n m) × (Clash n → ⊥)

  module _ (n : ℕ) where
    earlier : Clash n → Clash (suc n)
    earlier (j, l, a, b) = (j, omega arith, a, b)

    of-last : (m : Literal) → predicate_of m ≡ n → (m ≡ B n) ⊎ (m ≡ NotB n)
    of-last (B j) e = inl (ap B e)
    of-last (NotB j) e = inr (ap NotB e)

    -- the literals ys of predicate n behind those of the predicates below it
    grown : (xs ys : List Literal) → Is n (And xs) → ((m : Literal) → Memᴰ m ys ↔ ((predicate_of m ≡ n) × (known m ≡ true)))
        → (known (B n) ≡ true → known (NotB n) ≡ true → ⊥) → Is (suc n) (And (xs ++ ys))
    grown xs ys (is, none) here apart = (
      λ m. (
        λ d. ⊎_elim (λ q. let (l, k) = (is m).0 q in (omega arith, k)) (λ q. let (e, k) = (here m).0 q in (omega arith, k)) (Memᴰ.append_cases xs d),
        λ w. in_append xs (⊎_elim (λ e. inr ((here m).1 (e, w.1))) (λ l. inl ((is m).1 (l, w.1))) (eq-or-lt_of_le (le_of_suc-le-suc w.0))),
      ),
      λ w. let (j, l, a, b) = w in ⊎_elim (λ e. apart (rw e at a) (rw e at b)) (λ lt. none (j, lt, a, b)) (eq-or-lt_of_le (le_of_suc-le-suc l)),
    )

    one_more : (b c : Bool) → known (B n) ≡ b → known (NotB n) ≡ c → (x : Monomial) → Is n x → Is (suc n) (and x (conjunct b c n))
    one_more b c eb ec False (j, l, x, y) = (j, omega arith, x, y)
    one_more true true eb ec (And xs) h = (n, omega arith, eb, ec)
    one_more true false eb ec (And xs) h =
        grown xs (B n ∷ []) h
        (λ m. (
          λ d. rw (Memᴰ.eq_of_singleton d) (refl, eb),
          λ w. ⊎_elim (λ e. Memᴰ.head e) (λ e. false-true (sym ec ∙ rw e at w.1)) (of-last m w.0),
        )) (λ x y. false-true (sym ec ∙ y))
    one_more false true eb ec (And xs) h =
        grown xs (NotB n ∷ []) h
        (λ m. (
          λ d. rw (Memᴰ.eq_of_singleton d) (refl, ec),
          λ w. ⊎_elim (λ e. false-true (sym eb ∙ rw e at w.1)) (λ e. Memᴰ.head e) (of-last m w.0),
        )) (λ x y. false-true (sym eb ∙ x))
    one_more false false eb ec (And xs) h =
        grown xs [] h
        (λ m. (
          λ d. absurd (Memᴰ.not-nil d),
          λ w. ⊎_elim (λ e. false-true (sym eb ∙ rw e at w.1)) (λ e. false-true (sym ec ∙ rw e at w.1)) (of-last m w.0),
        )) (λ x y. false-true (sym eb ∙ x))

  conjuncts-is : (n : ℕ) → Is n (conjuncts known n)
  unfolding conjuncts
  conjuncts-is zero = (λ m. (λ d. absurd (Memᴰ.not-nil d), λ w. absurd (not-suc-le-zero w.0)), λ w. not-suc-le-zero w.1)
  conjuncts-is (suc n) = one_more n (known (B n)) (known (NotB n)) refl refl (conjuncts known n) (conjuncts-is n)

-- ---- formula (3)
module _ (shown : Fact → Bool) (untouched : ℕ → Bool) (here : Literal → Bool) (n : ℕ) where
  abbrev known : Literal → Bool
  known = follows shown untouched here

  -- a literal is in what formula (3) gives exactly if it is shown, or its predicate is untouched and it is a literal of the abstract state
  pub literals-are : {ms : List Literal} → formula3 shown untouched here n ≡ And ms → (m : Literal) → Memᴰ m ms ↔ Known known n m
  literals-are {ms} e = go (shown Disabled) (conjuncts known n) (conjuncts-is known n) e
    where
      go : (b : Bool) (x : Monomial) → Is known n x → cond b False x ≡ And ms → (m : Literal) → Memᴰ m ms ↔ Known known n m
      go true x h e = not-false e
      go false False h e = not-false e
      go false (And xs) h e = rw (← and_inj e) h.0

  -- it is false exactly if the transition is shown not to be enabled, or both literals of a predicate are known so
  pub false-is : (formula3 shown untouched here n ≡ False) ↔ ((shown Disabled ≡ true) ⊎ Clash known n)
  false-is = go (shown Disabled) (conjuncts known n) (conjuncts-is known n)
    where
      go : (b : Bool) (x : Monomial) → Is known n x → (cond b False x ≡ False) ↔ ((b ≡ true) ⊎ Clash known n)
      go true x h = (λ e. inl refl, λ s. refl)
      go false False h = (λ e. inr h, λ s. refl)
      go false (And xs) h = (λ e. not-false (sym e), λ s. ⊎_elim (λ e. false-true e) (λ w. absurd (h.1 w)) s)
