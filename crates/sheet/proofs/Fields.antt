-- The word of a finding whose numbers fit their fields loses nothing, and is a word of 32 bits of kind FINDING.
use mathlib.Core.Path.{◌≡◌, refl, sym, ap, ◌∙◌}
use mathlib.Core.Bool.{Bool, true, false, cond}
use Prim.Native.Nat.{ℕ, ◌^◌, ◌<◌}
use native.Mathlib.Omega.{arith}
use lib.Dec.{eqb}
use Rattle.words.specs.Words.{bits, kind_of, FINDING}
use Rattle.verdict.specs.declared.Finding.{Finding}
use Rattle.verdict.specs.declared.Finding.TheVariants.{Forbid, RunOff}
use Rattle.sheet.specs.Sheets.{finding_word, Fits}

-- the finding that a word's fields tell
read_back : ℕ → Finding
read_back w = cond (eqb (bits 18 18 w) 1) (RunOff (bits 27 19 w) (bits 17 14 w) (bits 13 11 w) (eqb (bits 0 0 w) 1)) (Forbid (bits 27 19 w) (bits 13 11 w))

-- the bit of an end
bit-small : (high : Bool) → cond high 1 0 < 2
bit-small true = omega arith
bit-small false = omega arith

bit_again : (high : Bool) → eqb (cond high 1 0) 1 ≡ high
bit_again true = refl
bit_again false = refl

read_again : (f : Finding) → Fits f → read_back (finding_word f) ≡ f
unfolding read_back
read_again (Forbid k b) h =
    let w = finding_word (Forbid k b) in
    let off : bits 18 18 w ≡ 0 = omega arith in
    let node : bits 27 19 w ≡ k = omega arith in
    let combination : bits 13 11 w ≡ b = omega arith in
    rw (off, node, combination) refl
read_again (RunOff k j v high) h =
    let w = finding_word (RunOff k j v high) in
    let bit = bit-small high in
    let off : bits 18 18 w ≡ 1 = omega arith in
    let node : bits 27 19 w ≡ k = omega arith in
    let action : bits 17 14 w ≡ j = omega arith in
    let variable : bits 13 11 w ≡ v = omega arith in
    let end : bits 0 0 w ≡ cond high 1 0 = omega arith in
    rw (off, node, action, variable, end, bit_again high) refl

pub word_tells : (f f' : Finding) → Fits f → Fits f' → finding_word f ≡ finding_word f' → f ≡ f'
word_tells f f' h h' e = sym (read_again f h) ∙ ap read_back e ∙ read_again f' h'

pub word_kind : (f : Finding) → Fits f → kind_of (finding_word f) ≡ FINDING
word_kind (Forbid k b) h = omega arith
word_kind (RunOff k j v high) h = omega (arith, bit-small high)

pub word_small : (f : Finding) → Fits f → finding_word f < 2 ^ 32
word_small f h = omega (arith, word_kind f h)
