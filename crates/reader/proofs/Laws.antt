-- Laws of the next word of a list.
use mathlib.Core.Path.{◌≡◌, refl, sym, ap, ◌∙◌}
use mathlib.Core.Bool.{Bool, true, false, cond, ◌&&◌}
use mathlib.Core.List.{List, [], ◌∷◌}
use Prim.Native.Nat.{ℕ, suc, ◌+◌, ◌≤◌, ◌<◌}
use native.Mathlib.Omega.{arith}
use native.Mathlib.Numerals.{add-one}
use native.Mathlib.Decide.{dec_lt}
use lib.Dec.{eqb}
use lib.ListN.{length, get_or, drop, drop_of_length-le, length-drop}
use lib.Seq.{drop-cons}
use Rattle.std.specs.Prelude.{Result, Ok, Err}
use Rattle.std.specs.Result.{IsErrAnd}
use Rattle.std.proofs.lemmas.Result.{err_from_is_err_and}
use Rattle.words.specs.Words.{kind_of}
use Rattle.words.specs.declared.Refusal.{Refusal}
use Rattle.words.specs.declared.Refusal.TheVariants.{Word, Limit, Value}
use Rattle.grammar.specs.Reading.{Read, got, refused, due, one, begins}
use Rattle.grammar.proofs.ReadingLaws.{one_out}
use Rattle.reader.specs.Results.{outcome, next_of, placed}

-- where reading goes on, by the tests of a word
abbrev pub due_next : Bool → Bool → Bool → ℕ → Result ℕ Refusal
due_next n l a i = cond n (cond l (cond a (Ok (i + 1)) (Err (Value i))) (Err (Limit i))) (Err (Word i))

module _ (kind : ℕ) where
  next_is : (n l a : Bool) (ws : List ℕ) (i : ℕ) → next_of (one kind (λ w. n) (λ w. l) (λ w. a) ws i) ≡ due_next (begins kind ws && n) l a i
  unfolding one due
  next_is n l a [] i = refl
  next_is n l a (w ∷ ws) i = rw (add-one i) (by (eqb (kind_of w) kind) n l a)
    where
      by : (b n l a : Bool) → next_of (due (b && n) (Word i) (due l (Limit i) (due a (Value i) (got w ws (suc i)))))
          ≡ cond (b && n) (cond l (cond a (Ok (suc i)) (Err (Value i))) (Err (Limit i))) (Err (Word i))
      by false n l a = refl
      by true false l a = refl
      by true true false a = refl
      by true true true false = refl
      by true true true true = refl

  pub word_is : {x : Result ℕ Refusal} (n l a : Bool) (ws : List ℕ) (i : ℕ) → x ≡ due_next (begins kind ws && n) l a i
      → x ≡ next_of (one kind (λ w. n) (λ w. l) (λ w. a) ws i)
  word_is n l a ws i e = e ∙ sym (next_is n l a ws i)

-- ---- an outcome, taken apart
module _ {A B : Type 0} (f : A → ℕ → B) where
  pub err-out : (m : Read A) {r : Refusal} → Err r ≡ outcome f m → m ≡ refused r
  err-out (got a ws i) h = cc h
  err-out (refused x) h = cc h

  pub ok-out : (m : Read A) {b : B} → Ok b ≡ outcome f m → (a : A) × (ws : List ℕ) × (i : ℕ) × (m ≡ got a ws i) × (b ≡ f a i)
  ok-out (got a ws i) h = (a, ws, i, refl, cc h)
  ok-out (refused x) h = cc h

module _ {A : Type 0} where
  pub pair-out : (m : Read A) {a : A} {j : ℕ} → ◌≡◌ {A = Result (A × ℕ) Refusal} (Ok (a, j)) (placed m) → (us : List ℕ) × (m ≡ got a us j)
  pair-out m h = let (x, us, i, q, s) = ok-out (λ x i. (x, i)) m h in (us, q ∙ (λ t. got (sym s t).0 us (sym s t).1))

-- what a `?` hands back
pub handed-back : {T : Type 0} (r : Result T Refusal) {e : Refusal} {x : Result T Refusal} → IsErrAnd r (λ d. d ≡ e) → Err e ≡ x → r ≡ x
handed-back r h q = let p = err_from_is_err_and r h in rw (p.1, p.2) q

-- ---- a word read by tests of the word itself
module _ (kind : ℕ) (f g h : ℕ → Bool) (ws : List ℕ) (at index : ℕ) where
  abbrev first : ℕ
  first = get_or ws at 0

  abbrev byTests : Result ℕ Refusal
  byTests = next_of (one kind (λ x. f first) (λ x. g first) (λ x. h first) (drop at ws) index)

  tested : one kind (λ x. f first) (λ x. g first) (λ x. h first) (drop at ws) index ≡ one kind f g h (drop at ws) index
  unfolding one
  tested = elim (dec_lt at (length ws)) [
    | yes l ↦ rw (drop-cons ws at 0 l) refl
    | no n ↦ rw (drop_of_length-le ws {i = at} (omega arith)) refl
  ]

  pub head-refused : (r : Refusal) → Err r ≡ byTests → one kind f g h (drop at ws) index ≡ refused r
  head-refused r e = sym tested ∙ err-out (λ a i. i) _ e

  pub head-taken : (j : ℕ) → Ok j ≡ byTests → (at < length ws) × (j ≡ index + 1) × (one kind f g h (drop at ws) index ≡ got first (drop (at + 1) ws) (index + 1))
  head-taken j e =
      let (u, us, n, q, s) = ok-out (λ a i. i) _ e in
      let o = one_out kind f g h (drop at ws) index u us n (sym tested ∙ q) in
      let l : at < length ws = omega (arith, length-drop at ws, ap length o.words) in
      let cons = drop-cons ws at 0 l in
      let both : (first ∷ drop (suc at) ws) ≡ (u ∷ us) = sym cons ∙ o.words in
      let same : u ≡ first = cc in
      let rest : us ≡ drop (at + 1) ws = rw (add-one at) (cc) in
      let next : n ≡ index + 1 = o.place in
      (l, s ∙ next, sym tested ∙ q ∙ rw (same, rest, next) refl)

  -- the same where the index is the place
  pub head-at : (j : ℕ) → at ≡ index → Ok j ≡ byTests → (at < length ws) × (j ≤ length ws) × (one kind f g h (drop at ws) index ≡ got first (drop j ws) j)
  head-at j same e =
      let (l, place, q) = head-taken j e in
      let n : at + 1 ≡ j = omega arith in
      let m : index + 1 ≡ j = sym place in
      (l, omega arith, q ∙ (λ t. got first (drop (n t) ws) (m t)))
