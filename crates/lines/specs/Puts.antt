-- What writing a text into a list of bytes leaves. Only contracts of functions within the project cite these.
--
-- put — a list with a text at a place; what lies before and behind stays
-- Put — what writing a text at a place leaves, and the place behind it
use Rattle.std.specs.Prelude.{◌≡◌, List, ◌++◌, ℕ, ◌+◌, length, take, drop}

unfoldable pub put : List ℕ → ℕ → List ℕ → List ℕ
put out at text = take at out ++ text ++ drop (at + length text) out

pub record Put (before : List ℕ) (at : ℕ) (text after : List ℕ) (behind : ℕ) : Type 0 where
  pub there : after ≡ put before at text
  pub ends : behind ≡ at + length text
