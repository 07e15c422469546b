-- The decimal digits of a number are the fewest that hold it.
use mathlib.Core.Path.{◌≡◌, refl, ◌∙◌}
use mathlib.Core.Bool.{Bool, true, false, cond}
use mathlib.Core.List.{List, [], ◌∷◌, ◌++◌}
use Prim.Native.Nat.{ℕ, zero, suc, ◌+◌, ◌-◌, ◌*◌, ◌/◌, ◌%◌, ◌^◌, ◌≤◌, ◌<◌}
use native.Mathlib.Omega.{arith}
use native.Mathlib.Nat.{pow-suc, one-le-pow, pow-le-pow_right}
use borrow.Author.Tests.{lt-ltb, le-ltb, ltb-true, ltb-false}
use lib.Dec.{ltb}
use lib.ListN.{length, length-append}
use Rattle.io.specs.Digits.{hex_digit_ascii, last_digits, IsDigitCount}
use Rattle.lines.specs.Text.{spelled, decimal}

glyphs : (d : ℕ) → d < 10 → hex_digit_ascii d ≡ 48 + d
glyphs d h = rw (lt-ltb d 10 h)

last_digit : (n : ℕ) → n % 10 < 10
last_digit n = omega arith

fewest_spelled : (f k n : ℕ) → IsDigitCount 10 1 n k → k ≤ f → last_digits 10 k n ≡ spelled f n
unfolding spelled
fewest_spelled zero k n w h = absurd (omega (arith, w.0))
fewest_spelled (suc f) zero n w h = absurd (omega (arith, w.0))
fewest_spelled (suc f) (suc zero) n w h =
    let low : n < 10 = omega (arith, w.1) in
    let same : n % 10 ≡ n = omega arith in
    rw (lt-ltb n 10 low, same, lt-ltb n 10 low)
fewest_spelled (suc f) (suc (suc k)) n w h =
    let ten : 10 ^ suc (suc k) ≡ 10 ^ suc k * 10 = pow-suc 10 (suc k) in
    let less : suc (suc k) - 1 ≡ suc k = omega arith in
    let fewer : suc k - 1 ≡ k = omega arith in
    let many : 10 ^ suc k ≤ n = rw less at (w.2 (omega arith)) in
    let more : 10 ^ suc k ≡ 10 ^ k * 10 = pow-suc 10 k in
    let some : 1 ≤ 10 ^ k = one-le-pow k 10 (omega arith) in
    let high : 10 ≤ n = omega arith in
    let ih = fewest_spelled f (suc k) (n / 10) (omega arith, omega (arith, w.1), λ z. rw fewer (omega arith)) (omega arith) in
    rw (le-ltb n 10 high, ← ih, glyphs (n % 10) (last_digit n))

few : (n k : ℕ) → IsDigitCount 10 1 n k → n < 2 ^ 64 → (b : Bool) → ltb 20 k ≡ b → k ≤ 20
few n k w h true e =
    let high : 20 < k = ltb-true 20 k e in
    let most : 10 ^ 20 ≤ 10 ^ (k - 1) = pow-le-pow_right (omega arith) {i = 20} {j = k - 1} (omega arith) in
    absurd (omega (arith, w.2 (omega arith)))
few n k w h false e = ltb-false 20 k e

pub in_decimal : (n k : ℕ) (text : List ℕ) → IsDigitCount 10 1 n k → n < 2 ^ 64 → text ≡ last_digits 10 k n → text ≡ decimal n
unfolding decimal
in_decimal n k text w h e = e ∙ fewest_spelled 20 k n w (few n k w h (ltb 20 k) refl)

spelled_short : (k n : ℕ) → length (spelled k n) ≤ k
unfolding spelled
spelled_short zero n = omega arith
spelled_short (suc k) n = go (ltb n 10) (spelled_short k (n / 10))
  where
    go : (b : Bool) → length (spelled k (n / 10)) ≤ k → length (cond b ((48 + n) ∷ []) (spelled k (n / 10) ++ ((48 + n % 10) ∷ []))) ≤ suc k
    go true ih = omega arith
    go false ih = simp length-append (omega arith)

pub decimal_short : (n : ℕ) → length (decimal n) ≤ 20
unfolding decimal
decimal_short n = spelled_short 20 n

pub two_digits : (n : ℕ) → n < 100 → length (decimal n) ≤ 2
unfolding decimal spelled
two_digits n h = go (ltb n 10) refl
  where
    go : (b : Bool) → ltb n 10 ≡ b → length (cond b ((48 + n) ∷ []) (spelled 19 (n / 10) ++ ((48 + n % 10) ∷ []))) ≤ 2
    go true e = omega arith
    go false e = let low : n / 10 < 10 = omega arith in rw (lt-ltb (n / 10) 10 low) (omega arith)
