-- Places in number order: by node and action, and as one number.
use mathlib.Core.Path.{◌≡◌}
use mathlib.Core.Logic.{inl, inr, ⊎_elim}
use Prim.Native.Nat.{ℕ, ◌+◌, ◌*◌, ◌<◌, ◌≤◌}
use native.Mathlib.Omega.{arith}
use Rattle.search.proofs.Count.{lt_or_le, row_below}
use Rattle.abstraction.specs.Faithful.{Earlier}

pub earlier-below : (a i j k l : ℕ) → j < a → Earlier i j k l → i * a + j < k * a + l
earlier-below a i j k l hj (inl lt) = omega (arith, row_below a i j k hj lt)
earlier-below a i j k l hj (inr (e, lt)) = let f : i * a ≡ k * a = rw e in omega arith

pub below-earlier : (a i j k l : ℕ) → l < a → i * a + j < k * a + l → Earlier i j k l
below-earlier a i j k l hl h =
    ⊎_elim (λ lt. inl lt)
    (λ le. ⊎_elim (λ lt. absurd (omega (arith, row_below a k l i hl lt)))
    (λ ge. let e : i ≡ k = omega arith in let f : i * a ≡ k * a = rw e in inr (e, omega arith)) (lt_or_le k i)) (lt_or_le i k)

pub earlier-node : {i j k l : ℕ} → Earlier i j k l → i ≤ k
earlier-node (inl lt) = omega arith
earlier-node (inr (e, lt)) = omega (arith, e)
