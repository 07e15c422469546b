-- Where the logic ends: behind the first END, or with the last word.
use Rattle.std.proofs.Common.{◌≡◌, ◌≤◌, ◌<◌, length, ℕ, suc, ◌+◌, Bool, true, false, cond, List, [], ◌∷◌, eqb, ltb, Option, Some, None, refl, arith}
use Rattle.std.proofs.lemmas.Bool.Decides.{nat_tests}
use Rattle.std.specs.List.{position_or_len}
use Rattle.words.specs.Words.{kind_of, END}
use Rattle.show.specs.Show.{logic_length}

abbrev pub ends : ℕ → Bool
ends w = eqb (kind_of w) END

abbrev pub first_end : List ℕ → ℕ
first_end = position_or_len ends

module _ (w : ℕ) (ws : List ℕ) where
  here : ends w ≡ true → (first_end (w ∷ ws) ≡ 0) × (logic_length (w ∷ ws) ≡ 1)
  unfolding logic_length
  here e = rw e (refl, refl)

  there : ends w ≡ false → (first_end (w ∷ ws) ≡ 1 + first_end ws) × (logic_length (w ∷ ws) ≡ suc (logic_length ws))
  unfolding logic_length
  there e = rw e (refl, refl)

  by_word : {X : Type 0} (b : Bool) → ends w ≡ b → (ends w ≡ true → X) → (ends w ≡ false → X) → X
  by_word true e f g = f e
  by_word false e f g = g e

at_end : (ws : List ℕ) → first_end ws < length ws → logic_length ws ≡ first_end ws + 1
at_end [] h = absurd (omega arith)
at_end (w ∷ ws) h =
    by_word w ws (ends w) refl
    (λ e. let f = here w ws e in omega arith)
    (λ e. let f = there w ws e in let more = at_end ws (omega arith) in omega arith)

without : (ws : List ℕ) → length ws ≤ first_end ws → logic_length ws ≡ length ws
unfolding logic_length
without [] h = refl
without (w ∷ ws) h =
    by_word w ws (ends w) refl
    (λ e. let f = here w ws e in absurd (omega arith))
    (λ e. let f = there w ws e in let more = without ws (omega arith) in omega arith)

found : {o : Option ℕ} {p n i : ℕ} → o ≡ cond (ltb p n) (Some p) None → o ≡ Some i → (p ≡ i) × (p < n)
found e f = grind (arith, nat_tests)

missed : {o : Option ℕ} {p n : ℕ} → o ≡ cond (ltb p n) (Some p) None → o ≡ None → n ≤ p
missed e f = grind (arith, nat_tests)

abbrev pub First : List ℕ → Option ℕ → Type 0
First ws o = o ≡ cond (ltb (first_end ws) (length ws)) (Some (first_end ws)) None

pub with_end : (ws : List ℕ) {o : Option ℕ} {i : ℕ} → First ws o → o ≡ Some i → (i + 1 ≡ logic_length ws) × (i + 1 ≤ length ws)
with_end ws {i = i} e f = let at : (first_end ws ≡ i) × (first_end ws < length ws) = found e f in (omega (arith, at_end ws at.1), omega arith)

pub with_none : (ws : List ℕ) {o : Option ℕ} → First ws o → o ≡ None → (length ws ≡ logic_length ws) × (length ws ≤ length ws)
with_none ws e f = (omega (arith, without ws (missed e f)), omega arith)
