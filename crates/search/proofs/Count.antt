-- Counting: two places of a table are one, no injection into fewer places, and what `seek` finds.
use Prim.Native.Nat.{ℕ, zero, suc, zero-le, suc-le-suc, ◌+◌, ◌*◌, ◌<◌, ◌≤◌}
use native.Mathlib.Omega.{arith}
use native.Mathlib.Nat.{suc-mul, mul-le-mul_right, not-suc-le-zero}
use native.Mathlib.Decide.{ℕ_discrete, dec_lt}
use mathlib.Core.Path.{◌≡◌, refl, sym, ap, ◌∙◌}
use mathlib.Core.Bool.{Bool, true, false}
use mathlib.Core.Logic.{◌⊎◌, inl, inr, ⊎_elim}
use mathlib.Core.List.{List, [], ◌∷◌}
use borrow.Author.Tests.{eqb-true, eqb-false}
use lib.ListN.{length, get_or}
use lib.Dec.{eqb}
use Rattle.search.specs.Search.{pick_n, seek}
use Rattle.search.proofs.Reach.{Distinct, AllOf}

pub lt_or_le : (m n : ℕ) → (m < n) ⊎ (n ≤ m)
lt_or_le m n = elim (dec_lt m n) [ yes h ↦ inl h | no h ↦ inr (omega arith) ]

pub eq_or_ne : (m n : ℕ) → (m ≡ n) ⊎ (m ≡ n → ⊥)
eq_or_ne m n = elim (ℕ_discrete m n) [ yes h ↦ inl h | no h ↦ inr h ]

-- a row of a table lies before the next
rows : (a i k : ℕ) → i < k → i * a + a ≤ k * a
rows a i k h = omega (arith, mul-le-mul_right a h, suc-mul i a)

pub same_place : (a i j k l : ℕ) → j < a → l < a → i * a + j ≡ k * a + l → (i ≡ k) × (j ≡ l)
same_place a i j k l hj hl e =
    ⊎_elim (λ lt. absurd (omega (arith, rows a i k lt)))
    (λ le. ⊎_elim (λ lt. absurd (omega (arith, rows a k i lt)))
    (λ ge. let s : i ≡ k = omega arith in (s, let f : i * a ≡ k * a = rw s in omega arith)) (lt_or_le k i)) (lt_or_le i k)

pub row_below : (a i j n : ℕ) → j < a → i < n → i * a + j < n * a
row_below a i j n hj h = omega (arith, rows a i n h)

-- ---- pigeons
-- a map that skips place n: whoever was there goes to c
abbrev moved : ℕ → ℕ → ℕ → ℕ
moved n c x = pick_n (eqb x n) c x

moved_cases : (n c x : ℕ) (t : Bool) → eqb x n ≡ t → ((x ≡ n) × (moved n c x ≡ c)) ⊎ ((x ≡ n → ⊥) × (moved n c x ≡ x))
moved_cases n c x true e = inl (eqb-true x n e, rw e)
moved_cases n c x false e = inr (eqb-false x n e, rw e)

pub pigeons : (m n : ℕ) (f : ℕ → ℕ) → ((i : ℕ) → i < m → f i < n) → ((i j : ℕ) → i < m → j < m → f i ≡ f j → i ≡ j) → m ≤ n
pigeons zero n f into inj = zero-le
pigeons (suc m) zero f into inj = absurd (not-suc-le-zero (into 0 (omega arith)))
pigeons (suc m) (suc n) f into inj = suc-le-suc (pigeons m n (λ i. moved n (f m) (f i)) into' inj')
  where
    cases : (i : ℕ) → ((f i ≡ n) × (moved n (f m) (f i) ≡ f m)) ⊎ ((f i ≡ n → ⊥) × (moved n (f m) (f i) ≡ f i))
    cases i = moved_cases n (f m) (f i) (eqb (f i) n) refl

    apart : (i : ℕ) → i < m → f i ≡ f m → ⊥
    apart i h e = let s = inj i m (omega arith) (omega arith) e in omega arith

    into' : (i : ℕ) → i < m → moved n (f m) (f i) < n
    into' i h =
        ⊎_elim (λ w. let d : f m ≡ n → ⊥ = λ e. apart i h (w.0 ∙ sym e) in let b = into m (omega arith) in ⊎_elim (λ e. absurd (d e)) (λ ne. rw w.1 (omega arith)) (eq_or_ne (f m) n))
        (λ w. let b = into i (omega arith) in rw w.1 (omega arith)) (cases i)

    inj' : (i j : ℕ) → i < m → j < m → moved n (f m) (f i) ≡ moved n (f m) (f j) → i ≡ j
    inj' i j hi hj e =
        ⊎_elim (λ u. ⊎_elim (λ w. inj i j (omega arith) (omega arith) (u.0 ∙ sym w.0)) (λ w. absurd (apart j hj (sym w.1 ∙ sym e ∙ u.1))) (cases j))
        (λ u. ⊎_elim (λ w. absurd (apart i hi (sym u.1 ∙ e ∙ w.1))) (λ w. inj i j (omega arith) (omega arith) (sym u.1 ∙ e ∙ w.1)) (cases j)) (cases i)

-- ---- seek
seek_cases : (w x : ℕ) (xs : List ℕ) (t : Bool) → eqb x w ≡ t → ((x ≡ w) × (seek w (x ∷ xs) ≡ 0)) ⊎ ((x ≡ w → ⊥) × (seek w (x ∷ xs) ≡ suc (seek w xs)))
seek_cases w x xs true e = inl (eqb-true x w e, rw e)
seek_cases w x xs false e = inr (eqb-false x w e, rw e)

pub seek_found : (w : ℕ) (ws : List ℕ) → seek w ws < length ws → get_or ws (seek w ws) 0 ≡ w
seek_found w [] h = absurd (not-suc-le-zero h)
seek_found w (x ∷ xs) h =
    ⊎_elim (λ c. rw c.1 c.0) (λ c. let h' : seek w xs < length xs = omega arith in rw c.1 (seek_found w xs h')) (seek_cases w x xs (eqb x w) refl)

pub seek-bound : (w : ℕ) (ws : List ℕ) → seek w ws ≤ length ws
seek-bound w [] = omega arith
seek-bound w (x ∷ xs) = let ih = seek-bound w xs in ⊎_elim (λ c. omega arith) (λ c. omega arith) (seek_cases w x xs (eqb x w) refl)

-- what stands somewhere is found no later
pub seek_le : (w : ℕ) (ws : List ℕ) (i : ℕ) → i < length ws → get_or ws i 0 ≡ w → seek w ws ≤ i
seek_le w [] i h e = absurd (not-suc-le-zero h)
seek_le w (x ∷ xs) zero h e = ⊎_elim (λ c. omega arith) (λ c. absurd (c.0 e)) (seek_cases w x xs (eqb x w) refl)
seek_le w (x ∷ xs) (suc i) h e =
    let ih = seek_le w xs i (omega arith) e in ⊎_elim (λ c. omega arith) (λ c. omega arith) (seek_cases w x xs (eqb x w) refl)

-- distinct words that all stand among others are no more than those
pub no_more : (xs ws : List ℕ) → Distinct xs → AllOf (λ w. seek w ws < length ws) xs → length xs ≤ length ws
no_more xs ws d all =
    pigeons (length xs) (length ws) (λ i. seek (get_or xs i 0) ws) (λ i h. all i h)
    (λ i j hi hj e. d i j hi hj (sym (seek_found (get_or xs i 0) ws (all i hi)) ∙ ap (λ (k : ℕ). get_or ws k 0) e ∙ seek_found (get_or xs j 0) ws (all j hj)))
