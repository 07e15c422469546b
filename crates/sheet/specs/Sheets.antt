-- Request 2: the findings of a graph as words of kind 14, and what its sentence says of them.
--
-- finding_word — the word of a finding
-- Fits         — the numbers of a finding under the limits
-- end_goal     — what shows an end of a range: the low one, the high one
-- Due          — the request's sentence: each node with each combination it doesn't contradict, and each node, action that has a successor there,
--               variable it sets and end without an applying lemma
-- Rises — each word is below all that follow
-- Told  — of a state: each combination that it meets is due at some node, and so is the end by which an action runs off there
-- Sheet — words of a graph's findings: all that are due and no others, each once and in judging order, and each word tells which finding it is
use Rattle.std.specs.Prelude.{◌≡◌, Bool, true, false, cond, ℕ, ◌+◌, ◌*◌, ◌^◌, ◌<◌, ℤ, length, get_or}
use mathlib.Core.List.{List, [], ◌∷◌, Memᴰ}
use Rattle.words.specs.Words.{word, no_literals, FINDING}
use Rattle.words.specs.Limits.{most_nodes, most_forbidden, most_actions, most_variables}
use Rattle.words.specs.LiteralSets.{literals_in}
use Rattle.grammar.specs.Programs.{Program}
use Rattle.grammar.specs.WellFormed.{Each}
use Rattle.runs.specs.Runs.{RunsOff, action_of, step, meets}
use Rattle.lemmas.specs.Lemmas.{Goal, NotBelow, NotAbove, Lemma}
use Rattle.lemmas.specs.LemmaGrammar.{sets_variable}
use Rattle.search.specs.Search.{Graph, count}
use Rattle.abstraction.specs.Abstraction.{applies, successor}
use Rattle.abstraction.specs.Faithful.{literals_at}
use Rattle.verdict.specs.Verdicts.{contradicted, has_next}
use Rattle.verdict.specs.declared.Finding.{Finding}
use Rattle.verdict.specs.declared.Finding.TheVariants.{Forbid, RunOff}

-- node in bits 27..19, bit 18 set for a run-off, action in 17..14, combination or variable in 13..11, bit 0 set for a high end
abbrev pub finding_word : Finding → ℕ
finding_word (Forbid k b) = word FINDING (k * 2 ^ 19 + b * 2 ^ 11)
finding_word (RunOff k j v high) = word FINDING (k * 2 ^ 19 + 2 ^ 18 + j * 2 ^ 14 + v * 2 ^ 11 + cond high 1 0)

abbrev pub Fits : Finding → Type 0
Fits (Forbid k b) = (k < most_nodes) × (b < most_forbidden)
Fits (RunOff k j v high) = (k < most_nodes) × (j < most_actions) × (v < most_variables)

abbrev pub end_goal : Bool → Goal
end_goal false = NotBelow
end_goal true = NotAbove

abbrev pub Due : Program → List Lemma → Graph → Finding → Type 0
Due p ls g (Forbid k b) =
    (k < count g) × (b < length p.forbidden) × (contradicted (literals_in 14 (get_or p.forbidden b no_literals).0) (literals_at g k) ≡ false)
Due p ls g (RunOff k j v high) =
    (k < count g) × (j < length p.actions) × (has_next (successor p ls j (literals_at g k)) ≡ true) × (sets_variable (action_of p j).sets v ≡ true)
    × (applies p ls j (literals_at g k) (end_goal high) v ≡ false)

unfoldable pub Rises : List ℕ → Type 0
Rises [] = Unit {0}
Rises (w ∷ ws) = Each (λ u. w < u) ws × Rises ws

-- The word's fields stand in judging order, from its highest bits down: nodes, combinations before run-offs, actions, variables, low before high.
pub record Sheet (p : Program) (ls : List Lemma) (g : Graph) (ws : List ℕ) : Type 0 where
  pub all : (f : Finding) → Due p ls g f → Memᴰ (finding_word f) ws
  pub only : (w : ℕ) → Memᴰ w ws → (f : Finding) × Due p ls g f × (w ≡ finding_word f) × ((f' : Finding) → Due p ls g f' → w ≡ finding_word f' → f' ≡ f)
  pub order : Rises ws

pub record Told (p : Program) (ls : List Lemma) (g : Graph) (s : List ℤ) : Type 0 where
  pub combinations : (b : ℕ) → b < length p.forbidden → meets p (get_or p.forbidden b no_literals) s ≡ true → (k : ℕ) × Due p ls g (Forbid k b)
  pub run-offs : (j v : ℕ) → j < length p.actions → step p j s ≡ RunsOff v → (k : ℕ) × (high : Bool) × Due p ls g (RunOff k j v high)
