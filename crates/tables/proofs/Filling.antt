-- The loop that weighs the lemmas: k are weighed, and the n accepted ones of them are in the tables.
use mathlib.Core.Path.{◌≡◌, refl, sym, ap, ◌∙◌}
use mathlib.Core.Bool.{Bool, true, false, cond}
use mathlib.Core.List.{List, [], ◌∷◌, ◌++◌, map, append-nil}
use Prim.Native.Nat.{ℕ, suc, ◌+◌, ◌*◌, ◌≤◌, ◌<◌}
use native.Mathlib.Omega.{arith}
use native.Mathlib.Numerals.{add-one}
use native.Mathlib.Nat.{zero-add, add-zero}
use lib.IntN.{ℤ, pos}
use lib.Signed.{lt_z}
use lib.ListN.{length, get_or, set, take, drop, length-set, drop_of_length-le}
use lib.Seq.{drop-cons, take-suc, take_all}
use Rattle.std.proofs.lemmas.List.{take-set}
use Rattle.words.specs.Words.{bits, payload}
use Rattle.std.specs.Prelude.{Option, Some, None}
use Rattle.words.specs.declared.Refusal.TheVariants.{Sum}
use Rattle.rows.specs.Rows.{in64, exact}
use Rattle.grammar.specs.Programs.{Program}
use Rattle.grammar.specs.WellFormed.{WellFormed}
use Rattle.lemmas.specs.Lemmas.{goal_number, Lemma, largest_of, accepted}
use Rattle.lemmas.specs.Sources.{one_if}
use Rattle.ask.specs.Calls.{no_lemma}
use Rattle.ask.specs.Weighing.{the_lemma}
use Rattle.ask.proofs.Weighs.{fields}
use Rattle.gather.specs.Gathering.{place_of, entry_of}
use Rattle.gather.specs.declared.Entry.{Entry}
use Rattle.gather.proofs.Tables.{lemmas_push}
use Rattle.gather.specs.Gathering.{Claim}
use Rattle.abstraction.specs.Claims.{claim_of, with_claim, claims}
use Rattle.tables.specs.Tabled.{Begun, Filled}
use Rattle.tables.specs.Off.{first_off}

-- ---- a sum that fits, and one that does not
exact_tests : (x z : ℤ) (b : Bool) → in64 x ≡ b → cond b (Some x) None ≡ Some z → (in64 x ≡ true) × (z ≡ x)
exact_tests x z true t e = (t, cc e)
exact_tests x z false t e = cc e

exact-value : (x z : ℤ) → exact x ≡ Some z → (in64 x ≡ true) × (z ≡ x)
exact-value x z e = exact_tests x z (in64 x) refl e

off_tests : (x : ℤ) (b : Bool) → in64 x ≡ b → ◌≡◌ {A = Option ℤ} (cond b (Some x) None) None → in64 x ≡ false
off_tests x true t e = cc e
off_tests x false t e = t

-- ---- one lemma more
with_append : (b : Bool) (c : Claim) (xs ys : List Claim) → with_claim b c (xs ++ ys) ≡ with_claim b c xs ++ ys
with_append true c xs ys = refl
with_append false c xs ys = refl

claims_snoc : (p : Program) (ls : List Lemma) (l : Lemma) → claims p (ls ++ (l ∷ [])) ≡ claims p ls ++ with_claim (accepted p l) (claim_of l) []
unfolding claims
claims_snoc p [] l = refl
claims_snoc p (x ∷ ls) l = ap (with_claim (accepted p x) (claim_of x)) (claims_snoc p ls l) ∙ with_append (accepted p x) (claim_of x) (claims p ls) (with_claim (accepted p l) (claim_of l) [])

-- a claim's entry written behind n entries, and counted or not
written : (es : List Entry) (n : ℕ) (c : Claim) (cs : List Claim) (b : Bool) → n < length es → take n es ≡ map entry_of cs
    → take (n + one_if b) (set es n (entry_of c)) ≡ map entry_of (cs ++ with_claim b c [])
written es n c cs true h e = lemmas_push es cs c n h e
written es n c cs false h e = rw (add-zero n, append-nil cs) (take-set es n (entry_of c) ∙ e)

one-small : (b : Bool) → one_if b ≤ 1
one-small true = omega arith
one-small false = omega arith

-- ---- the loop
pub record Filling (p : Program) (ls : List Lemma) (es : List Entry) (n k : ℕ) : Type 0 where
  pub within : k ≤ length ls
  pub few : n ≤ k
  pub long : 512 ≤ length es
  pub none-off : k + first_off p (drop k ls) ≡ first_off p ls
  pub same : take n es ≡ map entry_of (claims p (take k ls))

module _ (p : Program) (ok : WellFormed p) (ws begin : List ℕ) (ls : List Lemma) (b : Begun p ws begin ls) where
  pub filling-none : {es : List Entry} → 512 ≤ length es → Filling p ls es 0 0
  unfolding claims
  filling-none wide = record { within = omega arith; few = omega arith; long = wide; none-off = zero-add (first_off p ls); same = refl }

  module _ {es : List Entry} {n k : ℕ} (t : Filling p ls es n k) where
    pub filling-all : length begin ≤ k → Filled p ls es n
    unfolding first_off
    filling-all e =
        let all : k ≡ length ls = omega (arith, b.counted, t.within) in
        record {
          none-off = sym (rw (drop_of_length-le ls {i = k} (omega arith), add-zero k) at t.none-off) ∙ all;
          few = omega (arith, t.few, t.within, b.good.few, t.long);
          same = t.same ∙ rw (take_all k ls (omega arith)) refl;
        }

    module _ (l : k < length begin) where
      abbrev here : Lemma
      here = get_or ls k no_lemma

      abbrev place : ℕ
      place = get_or begin k 0

      known : k < length ls
      known = omega (arith, b.counted)

      pub turn-few : (k < 512) × (n < 512)
      turn-few = (omega (arith, known, b.good.few), omega (arith, known, t.few, b.good.few))

      first-here : first_off p (drop k ls) ≡ cond (in64 (largest_of p here)) (suc (first_off p (drop (suc k) ls))) 0
      unfolding first_off
      first-here = rw (drop-cons ls k no_lemma known) refl

      module _ {x : Option ℤ} (e : x ≡ exact (largest_of p (the_lemma p ws place))) where
        weight : x ≡ exact (largest_of p here)
        weight = rw (b.here k l).1 at e

        pub turn-off : x ≡ None → (first_off p ls < length ls) × (Sum k ≡ Sum (first_off p ls))
        turn-off q =
            let f = off_tests (largest_of p here) (in64 (largest_of p here)) refl (sym weight ∙ q) in
            let g = rw (first-here, f) at t.none-off in
            (omega (arith, known, g), ap Sum (sym (add-zero k) ∙ g))

        pub turn-next : {z : ℤ} {w s more : ℕ} → x ≡ Some z → w ≡ get_or ws place 0 → s ≡ get_or ws (place + 1) 0 → more ≡ one_if (lt_z z (pos 0))
            → Filling p ls (set es n (record { premises = payload s; key = bits 27 20 w * 64 + place_of (bits 19 16 w) (bits 7 0 w) })) (n + more) (k + 1)
        turn-next {z} {w} {s} {more} q ew es' em =
            let (f, same-sum) = exact-value (largest_of p here) z (sym weight ∙ q) in
            let g = rw (first-here, f) at t.none-off in
            let same-lemma = (b.here k l).1 in
            let c = fields p ok ws place (b.here k l).0 in
            let premises-is : payload s ≡ here.premises.0 = ap payload es' ∙ c.3 ∙ ap (λ (m : Lemma). m.premises.0) same-lemma in
            let key-is : bits 27 20 w * 64 + place_of (bits 19 16 w) (bits 7 0 w) ≡ here.source * 64 + place_of (goal_number here.goal) here.index =
            rw (ew, c.0, c.1, c.2) (ap (λ (m : Lemma). m.source * 64 + place_of (goal_number m.goal) m.index) same-lemma) in
            let more-is : more ≡ one_if (accepted p here) = em ∙ ap (λ (y : ℤ). one_if (lt_z y (pos 0))) same-sum in
            record {
              within = omega (arith, known);
              few = rw more-is (omega (arith, t.few, one-small (accepted p here)));
              long = omega (arith, length-set es n (record { premises = payload s; key = bits 27 20 w * 64 + place_of (bits 19 16 w) (bits 7 0 w) }), t.long);
              none-off = rw (add-one k) (omega (arith, g));
              same = rw (premises-is, key-is, more-is, add-one k, take-suc ls k no_lemma known, claims_snoc p (take k ls) here)
                  (written es n (claim_of here) (claims p (take k ls)) (accepted p here) (omega (arith, t.long, turn-few)) t.same);
            }
