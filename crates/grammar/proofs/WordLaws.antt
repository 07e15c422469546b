-- Each word of the grammar and the value that it stands for.
use mathlib.Core.Path.{◌≡◌, refl, sym, ap, ◌∙◌, subst}
use mathlib.Core.Bool.{Bool, true, false, ◌&&◌}
use mathlib.Core.List.{List, [], ◌∷◌, ◌++◌}
use Prim.Native.Nat.{ℕ, suc, ◌+◌, ◌*◌, ◌^◌}
use native.Mathlib.Omega.{arith}
use lib.Dec.{eqb, ltb}
use lib.Bits.{bit_and}
use lib.IntN.{pos, negsuc}
use lib.Signed.{le_z}
use borrow.Author.Tests.{eqb-true, eq-eqb, ltb-true, lt-ltb}
use Rattle.integers.proofs.Tests.{le_z_true, le_le_z, and-true}
use Rattle.words.specs.Words.{bits, kind_of, payload, word, signed, unsigned, literals_of, VAR, SETS}
use Rattle.words.specs.declared.Literals.{Literals}
use Rattle.words.proofs.Laws.{kind_word, payload-word, word_split, signed-unsigned, unsigned_signed, unsigned-lt, signed-between}
use Rattle.rows.specs.declared.Range.{Range}
use Rattle.rows.proofs.Laws.{Between, between_out, between_in}
use Rattle.grammar.specs.Reading.{got, one, always, begins}
use Rattle.grammar.specs.Grammar.{range_of, range, combination, literals_allowed}
use Rattle.grammar.specs.Encoding.{encode_range, encode_literals}
use Rattle.grammar.specs.WellFormed.{RangeOk, LiteralsOk}
use Rattle.grammar.proofs.ReadingLaws.{Codec, retaken, one-taken, bound, one_out, one_in}

-- ---- VAR
range_same : (a b : Range) → a.low ≡ b.low → a.high ≡ b.high → a ≡ b
range_same a b p q = λ i. record { low = p i; high = q i }

range-word : (w : ℕ) → kind_of w ≡ VAR → w ∷ [] ≡ encode_range (range_of w)
range-word w h =
    let l = unsigned_signed 14 refl (bits 27 14 w) (omega arith) in
    let r = unsigned_signed 14 refl (bits 13 0 w) (omega arith) in
    let e : w ≡ word VAR (bits 27 14 w * 2 ^ 14 + bits 13 0 w) = omega arith in
    rw (l, r) (ap (λ (x : ℕ). x ∷ []) e)

module _ (r : Range) (ok : RangeOk r) where
  abbrev low_bits : ℕ
  low_bits = unsigned 14 r.low

  abbrev high_bits : ℕ
  high_bits = unsigned 14 r.high

  low-in : Between (negsuc 8191) (pos 8191) r.low
  low-in = between_out (negsuc 8191) (pos 8191) r.low ok.low

  high-in : Between (negsuc 8191) (pos 8191) r.high
  high-in = between_out (negsuc 8191) (pos 8191) r.high ok.high

  abbrev range-bits : ℕ
  range-bits = word VAR (low_bits * 2 ^ 14 + high_bits)

  range-kind : kind_of range-bits ≡ VAR
  range-kind =
      let l = unsigned-lt 14 refl r.low low-in.0 low-in.1 in
      let h = unsigned-lt 14 refl r.high high-in.0 high-in.1 in
      omega arith

  range_back : range_of range-bits ≡ r
  range_back =
      let l = unsigned-lt 14 refl r.low low-in.0 low-in.1 in
      let h = unsigned-lt 14 refl r.high high-in.0 high-in.1 in
      let p : bits 27 14 range-bits ≡ low_bits = omega arith in
      let q : bits 13 0 range-bits ≡ high_bits = omega arith in
      range_same (range_of range-bits) r (ap (signed 14) p ∙ signed-unsigned 14 refl r.low low-in.0 low-in.1)
      (ap (signed 14) q ∙ signed-unsigned 14 refl r.high high-in.0 high-in.1)

abbrev pub ordered : ℕ → Bool
ordered w = le_z (range_of w).low (range_of w).high

pub range_codec : Codec (range true) encode_range RangeOk
range_codec =
    record {
      out = λ ws i a vs j e. bound (one VAR always (λ w. true) ordered ws i) _ e (λ w us k e₁ h.
          let o = one_out VAR always (λ w. true) ordered ws i w us k e₁ in
          retaken (one-taken encode_range (range_of w) o (range-word w o.kind_is) (record {
            low = between_in (negsuc 8191) (pos 8191) (range_of w).low (signed-between 14 refl (bits 27 14 w) (omega arith));
            high = between_in (negsuc 8191) (pos 8191) (range_of w).high (signed-between 14 refl (bits 13 0 w) (omega arith));
            order = le_z_true _ _ o.allowed_is;
          })) h);
      into = λ a vs i p h. (
        suc i,
        rw (one_in VAR always (λ w. true) ordered (range-bits a p) vs i (range-kind a p) refl refl
            (subst (λ (g : Range). le_z g.low g.high ≡ true) (sym (range_back a p)) (le_le_z a.low a.high p.order))) (ap (λ (r : Range). got r vs (suc i)) (range_back a p)),
      );
      head = λ a vs p h. rw (range-kind a p) refl;
    }

pub range-full : (ws : List ℕ) (i : ℕ) (a : Range) (vs : List ℕ) (j : ℕ) → range false ws i ≡ got a vs j → ⊥
range-full ws i a vs j h = bound (one VAR always (λ w. false) ordered ws i) _ h (λ w us k e₁ h₁.
    let o = one_out VAR always (λ w. false) ordered ws i w us k e₁ in
    let z : ◌≡◌ {A = ℕ} 0 1 = cc o.within-is in omega arith)

pub range_starts : (a : Range) (vs : List ℕ) → RangeOk a → begins VAR (encode_range a ++ vs) ≡ true
range_starts a vs p = rw (range-kind a p) refl

-- ---- SETS
module _ (preds : ℕ) where
  abbrev known : ℕ → Bool
  known = literals_allowed preds

  pub literals-codec : Codec (combination preds true) encode_literals (LiteralsOk preds)
  literals-codec =
      record {
        out = λ ws i a vs j e. bound (one SETS always (λ w. true) known ws i) _ e (λ w us k e₁ h.
            let o = one_out SETS always (λ w. true) known ws i w us k e₁ in
            let (both, none) = and-true (ltb (bits 27 14 w) (2 ^ preds) && ltb (bits 13 0 w) (2 ^ preds)) (eqb (bit_and (bits 27 14 w) (bits 13 0 w)) 0) o.allowed_is in
            let (f, t) = and-true (ltb (bits 27 14 w) (2 ^ preds)) (ltb (bits 13 0 w) (2 ^ preds)) both in
            let high : bits 27 14 (payload w) ≡ bits 27 14 w = omega arith in
            let low : bits 13 0 (payload w) ≡ bits 13 0 w = omega arith in
            retaken (one-taken encode_literals (literals_of w) o (ap (λ (u : ℕ). u ∷ []) (word_split w o.kind_is)) (record {
              payload = omega arith;
              false-known = rw high (ltb-true (bits 27 14 w) (2 ^ preds) f);
              true-known = rw low (ltb-true (bits 13 0 w) (2 ^ preds) t);
              apart = rw (high, low) (eqb-true (bit_and (bits 27 14 w) (bits 13 0 w)) 0 none);
            })) h);
        into = λ a vs i p h.
            let w = word SETS a.0 in
            let small = p.payload in
            let high : bits 27 14 w ≡ bits 27 14 a.0 = omega arith in
            let low : bits 13 0 w ≡ bits 13 0 a.0 = omega arith in (
              suc i,
              rw (one_in SETS always (λ w. true) known w vs i (kind_word SETS a.0 small) refl refl
                  (rw (high, low, lt-ltb (bits 27 14 a.0) (2 ^ preds) p.false-known, lt-ltb (bits 13 0 a.0) (2 ^ preds) p.true-known, eq-eqb _ 0 p.apart) refl))
                  (ap (λ (u : ℕ). got (record { 0 = u }) vs (suc i)) (payload-word SETS a.0 small)),
            );
        head = λ a vs p h. rw (kind_word SETS a.0 p.payload) refl;
      }

  pub literals-full : (ws : List ℕ) (i : ℕ) (a : Literals) (vs : List ℕ) (j : ℕ) → combination preds false ws i ≡ got a vs j → ⊥
  literals-full ws i a vs j h = bound (one SETS always (λ w. false) known ws i) _ h (λ w us k e₁ h₁.
      let o = one_out SETS always (λ w. false) known ws i w us k e₁ in
      let z : ◌≡◌ {A = ℕ} 0 1 = cc o.within-is in omega arith)

  pub literals-starts : (a : Literals) (vs : List ℕ) → LiteralsOk preds a → begins SETS (encode_literals a ++ vs) ≡ true
  literals-starts a vs p = rw (kind_word SETS a.0 p.payload) refl
