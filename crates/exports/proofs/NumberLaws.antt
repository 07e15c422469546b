-- Of a step's numbers, one alone is runs off, and one alone is not enabled.
use mathlib.Core.Path.{◌≡◌, refl}
use mathlib.Core.Logic.{◌↔◌}
use Prim.Native.Nat.{ℕ}
use native.Mathlib.Omega.{arith}
use lib.IntN.{pos}
use lib.Signed.{◌<ℤ◌}
use Rattle.std.specs.Prelude.{Result, Ok, Err}
use Rattle.words.specs.declared.Refusal.{Refusal}
use Rattle.runs.specs.declared.Failing.{Failing}
use Rattle.runs.specs.declared.Stepped.{Stepped}
use Rattle.runs.specs.declared.Stepped.TheVariants.{Moved, NotEnabled, RunsOff}
use Rattle.exports.specs.Numbers.{step_of}

-- only runs off is 2
pub step-two : (s : Result Stepped Refusal) → ((v : ℕ) → s ≡ Ok (RunsOff v) → ⊥) → (step_of s).answer ≡ 2 → ⊥
step-two (Ok Moved) never e = absurd (omega arith)
step-two (Ok (NotEnabled f)) never e = absurd (omega arith)
step-two (Ok (RunsOff v)) never e = never v refl
step-two (Err r) never e = absurd (omega arith)

-- only not enabled is 1, and its guard row alone has a value below 0
pub step-below : (s : Result Stepped Refusal) → ((f : Failing) → s ≡ Ok (NotEnabled f) → f.value <ℤ pos 0) → ((step_of s).answer ≡ 1) ↔ ((step_of s).row_value <ℤ pos 0)
step-below (Ok Moved) below = (λ e. absurd (omega arith), λ h. absurd h.lt)
step-below (Ok (NotEnabled f)) below = (λ e. below f refl, λ h. refl)
step-below (Ok (RunsOff v)) below = (λ e. absurd (omega arith), λ h. absurd h.lt)
step-below (Err r) below = (λ e. absurd (omega arith), λ h. absurd h.lt)
