-- A list of words that is no lemma list is refused with 5 or 6.
use mathlib.Core.Path.{◌≡◌}
use mathlib.Core.Bool.{Bool, true, false, cond}
use mathlib.Core.List.{List}
use Prim.Native.Nat.{ℕ, ◌≤◌}
use native.Mathlib.Omega.{arith}
use lib.Dec.{eqb}
use Rattle.words.specs.Refusals.{number, value}
use Rattle.words.specs.declared.Refusal.{Refusal}
use Rattle.words.specs.declared.Refusal.TheVariants.{Lemmas}
use Rattle.words.specs.declared.Refusal.TheVariants.{Lemma as LemmaWord}
use Rattle.grammar.specs.Reading.{Read, got, refused}
use Rattle.grammar.specs.Programs.{Program}
use Rattle.lemmas.specs.Lemmas.{Lemma}
use Rattle.lemmas.specs.LemmaGrammar.{list, as_lemma, in_lemmas, read_lemmas}

as_lemma_lem : (r : Refusal) → (5 ≤ number (as_lemma r)) × (number (as_lemma r) ≤ 6)
as_lemma_lem r = go (eqb (number r) 3)
  where
    go : (b : Bool) → (5 ≤ number (cond b (Lemmas (value r)) (LemmaWord (value r)))) × (number (cond b (Lemmas (value r)) (LemmaWord (value r))) ≤ 6)
    go true = (omega arith, omega arith)
    go false = (omega arith, omega arith)

pub lemmas_refusal : (p : Program) (ws : List ℕ) {r : Refusal} → read_lemmas p ws ≡ refused r → (5 ≤ number r) × (number r ≤ 6)
lemmas_refusal p ws {r} e = go (list p ws 0) e
  where
    go : (m : Read (List Lemma)) → in_lemmas m ≡ refused r → (5 ≤ number r) × (number r ≤ 6)
    go (got ls us i) q = let z : ◌≡◌ {A = ℕ} 0 1 = cc in absurd (omega arith)
    go (refused t) q = let same : as_lemma t ≡ r = cc in rw (← same) (as_lemma_lem t)
