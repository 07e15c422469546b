-- A table with a place for every source, filled action by action.
use mathlib.Core.Path.{◌≡◌, sym, ap, ◌∙◌}
use mathlib.Core.List.{List, [], ◌∷◌, ◌++◌}
use Prim.Native.Nat.{ℕ, ◌≤◌, ◌<◌}
use native.Mathlib.Omega.{arith}
use native.Mathlib.Decide.{ℕ_discrete, dec_lt}
use lib.ListN.{length, get_or, set, length-set, length-append, get_or-append}
use Rattle.std.proofs.lemmas.List.{get_or-append_right}
use lib.Seq.{get_or-set_same, get_or-set_other}
use borrow.Author.Tests.{ne_eqb, lt-ltb, le-ltb}
use Rattle.lemmas.specs.Lemmas.{START}
use Rattle.lemmas.specs.Sources.{Slotted}

-- the actions below a have their places
pub record Slots {A : Type 0} (f : ℕ → A) (t : List A) (a : ℕ) : Type 0 where
  pub long : length t ≡ 18
  pub low : (d : A) (s : ℕ) → s < a → get_or t s d ≡ f s
  pub start : (d : A) → get_or t 16 d ≡ f START
  pub other : (d : A) → get_or t 17 d ≡ f 254

module _ {A : Type 0} (f : ℕ → A) where
  -- where the first 16 are those of a list, and the start's is put behind them
  pub slots_stored : {xs ys : List A} {x y : A} → ys ≡ xs → length xs ≡ 16 → ((s : ℕ) (d : A) → s < 16 → get_or xs s d ≡ f s) → x ≡ f START → y ≡ f 254
      → Slots f (set (ys ++ (y ∷ y ∷ [])) 16 x) 16
  slots_stored {xs} {ys} {x} {y} same long low start other =
      let n : length ys ≡ 16 = ap length same ∙ long in
      let t = ys ++ (y ∷ y ∷ []) in
      let all : length t ≡ 18 = length-append ys (y ∷ y ∷ []) ∙ omega arith in
      record {
        long = length-set t 16 x ∙ all;
        low = λ d s b. get_or-set_other t 16 s x d (λ q. omega arith) ∙ get_or-append ys (y ∷ y ∷ []) d s (omega arith) ∙ rw same (low s d b);
        start = λ d. get_or-set_same t 16 x d (omega arith) ∙ start;
        other = λ d. get_or-set_other t 16 17 x d (λ q. omega arith) ∙ get_or-append_right ys (y ∷ y ∷ []) 16 17 d n (omega arith) ∙ other;
      }

  pub slots-all : {t : List A} → ((s : ℕ) → 16 ≤ s → (s ≡ START → ⊥) → f s ≡ f 254) → Slots f t 16 → Slotted f t
  slots-all {t} alike c d s = elim (dec_lt s 16) [
    | yes l ↦ rw (lt-ltb s 16 l) (c.low d s l)
    | no m ↦ elim (ℕ_discrete s START) [
      | yes e ↦ rw (e) (c.start d)
      | no n ↦ rw (le-ltb s 16 (omega arith), ne_eqb s START n) (c.other d ∙ sym (alike s (omega arith) n))
    ]
  ]
