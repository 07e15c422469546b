-- What is known of nodes by a bit each. A bit that is not there says nothing, so that no finding is passed over.
--
-- Any                 — the nodes with a bit have a literal of the set
-- Small               — the nodes' literals are 28 digits
-- Opposed, AllOpposed — the nodes with a bit contradict the combination; each of n combinations
-- Shown               — there is no successor, or no place that is asked for is missing in what is known
-- Keeps, AllKeep      — at the nodes with a bit that is so of an action; of each of a actions
use Rattle.std.specs.Prelude.{◌≡◌, true, ◌⊎◌, List, ℕ, ◌^◌, ◌<◌, get_or}
use Rattle.words.specs.Words.{no_literals}
use Rattle.words.specs.declared.Literals.{Literals}
use Rattle.sets.specs.Sets.{Member, clashes}
use Rattle.gather.specs.Gathering.{first_missing}
use Rattle.gather.specs.declared.Entry.{Entry}
use Rattle.block.specs.Blocks.{after, none_of}

pub record Any (cols : List ℕ) (p r : ℕ) : Type 0 where
  pub some : (i : ℕ) → Member i r → (c : ℕ) × (c < 32) × Member c p × Member i (get_or cols c 0)

abbrev pub Small : List ℕ → Type 0
Small nodes = (i : ℕ) → get_or nodes i 0 < 2 ^ 28

pub record Opposed (nodes : List ℕ) (set r : ℕ) : Type 0 where
  pub each : (i : ℕ) → i < 64 → Member i r → clashes set (get_or nodes i 0) ≡ true

pub record AllOpposed (nodes : List ℕ) (literals : List Literals) (n r : ℕ) : Type 0 where
  pub each : (i b : ℕ) → i < 64 → b < n → Member i r → clashes (get_or literals b no_literals).0 (get_or nodes i 0) ≡ true

abbrev pub Shown : ℕ → ℕ → Type 0
Shown asked g = (none_of g ≡ true) ⊎ (first_missing asked g < 64 → ⊥)

pub record Keeps (kept nodes : List ℕ) (es : List Entry) (asked j r : ℕ) : Type 0 where
  pub each : (i : ℕ) → i < 64 → Member i r → Shown asked (after kept j (get_or nodes i 0) es)

pub record AllKeep (kept nodes : List ℕ) (es : List Entry) (asked : List ℕ) (a r : ℕ) : Type 0 where
  pub each : (i j : ℕ) → i < 64 → j < a → Member i r → Shown (get_or asked j 0) (after kept j (get_or nodes i 0) es)
