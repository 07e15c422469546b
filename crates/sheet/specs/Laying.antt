-- What the functions that lay findings in a list give. Only contracts of functions within the project cite these.
--
-- Laid   — a list with the words of findings from place i on, as many as it has room for; the place behind them, were there room for all
-- end_at — what the place of a missing end says: variable v has the places 28 + 2v and 29 + 2v
-- free   — the combinations, the first being number b, that no literal of a set contradicts
-- missed — the ends of action j that are missing, of the n places from q on
-- offs   — those of n actions from j on, of the ones that have a successor
use Rattle.std.specs.Option.{is_some}
use Rattle.std.specs.Prelude.{◌≡◌, cond, not, List, [], ◌∷◌, ◌++◌, map, ℕ, zero, suc, ◌+◌, ◌/◌, ◌%◌, eqb, length, get_or}
use Rattle.std.proofs.lemmas.List.Edits.{sets}
use Rattle.words.specs.LiteralSets.{has}
use Rattle.words.specs.declared.Literals.{Literals}
use Rattle.sets.specs.Sets.{clashes}
use Rattle.gather.specs.Gathering.{successor_of, missing}
use Rattle.verdict.specs.Verdicts.{unless}
use Rattle.verdict.specs.declared.Finding.{Finding}
use Rattle.verdict.specs.declared.Finding.TheVariants.{Forbid, RunOff}
use Rattle.sheet.specs.Sheets.{finding_word}

-- the list was l and is l'
pub record Laid (fs : List Finding) (l : List ℕ) (i : ℕ) (l' : List ℕ) (i' : ℕ) : Type 0 where
  pub places : i' ≡ i + length fs
  pub words : l' ≡ sets l i (map finding_word fs)

abbrev pub end_at : ℕ → ℕ → ℕ → Finding
end_at k j place = RunOff k j (place / 2 % 14) (eqb (place % 2) 1)

unfoldable pub free : ℕ → ℕ → ℕ → List Literals → List Finding
free set k b [] = []
free set k b (c ∷ cs) = unless (clashes c.0 set) (Forbid k b) ++ free set k (suc b) cs

unfoldable pub missed : ℕ → ℕ → ℕ → ℕ → ℕ → List Finding
missed m k j q zero = []
missed m k j q (suc n) = unless (not (has q m)) (end_at k j q) ++ missed m k j (suc q) n

unfoldable pub offs : List ℕ → List ℕ → ℕ → ℕ → ℕ → List Finding
offs asked shown k j zero = []
offs asked shown k j (suc n) =
    cond (is_some (successor_of (get_or shown j 0))) (missed (missing (get_or asked j 0) (get_or shown j 0)) k j 28 16) [] ++ offs asked shown k (suc j) n
