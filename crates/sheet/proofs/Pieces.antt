-- The findings of a graph, put together from pieces: one for each node, and there one for each combination and then one for each action.
use mathlib.Core.Path.{◌≡◌, refl, ◌∙◌}
use mathlib.Core.Bool.{cond}
use mathlib.Core.Logic.{⊎_elim, ◌↔◌}
use mathlib.Core.List.Memᴰ
use mathlib.Core.List.{List, [], ◌∷◌, ◌++◌, Memᴰ}
use Prim.Native.Nat.{ℕ, zero, suc, ◌+◌, ◌≤◌, ◌<◌}
use native.Mathlib.Nat.{eq-or-lt_of_le}
use native.Mathlib.Omega.{arith}
use lib.ListN.{length, get_or, drop, drop_of_length-le}
use lib.Seq.{drop-cons}
use Rattle.words.specs.Words.{no_literals}
use Rattle.words.specs.LiteralSets.{literals_in}
use Rattle.words.specs.declared.Literals.{Literals}
use Rattle.grammar.specs.Programs.{Action, Program}
use Rattle.programs.proofs.Places.{none_action}
use Rattle.runs.specs.Runs.{action_of}
use Rattle.lemmas.specs.Lemmas.{Lemma}
use Rattle.search.specs.Search.{Graph, count}
use Rattle.abstraction.specs.Abstraction.{applies, successor}
use Rattle.abstraction.specs.Faithful.{literals_at}
use Rattle.verdict.specs.Verdicts.{contradicted, unless, forbids, ends, has_next, runs_off, findings_from, findings}
use Rattle.verdict.specs.declared.Finding.{Finding}
use Rattle.verdict.specs.declared.Finding.TheVariants.{Forbid}

-- ---- lists in pieces
module _ {A : Type 0} where
  -- n pieces from number i on
  unfoldable pub pieces : (ℕ → List A) → ℕ → ℕ → List A
  pieces f i zero = []
  pieces f i (suc n) = f i ++ pieces f (suc i) n

  module _ (f : ℕ → List A) (x : A) where
    in-pieces-from : (i n : ℕ) → Memᴰ x (pieces f i n) ↔ ((j : ℕ) × (i ≤ j) × (j < i + n) × Memᴰ x (f j))
    unfolding pieces
    in-pieces-from i zero = (λ d. absurd (Memᴰ.not-nil d), λ w. absurd (omega arith))
    in-pieces-from i (suc n) =
        let (to, back) = in-pieces-from (suc i) n in (
          λ d. ⊎_elim (λ q. (i, omega arith, omega arith, q)) (λ q. let (j, from, below, r) = to q in (j, omega arith, omega arith, r))
              (Memᴰ.append_cases (f i) d),
          λ w. let (j, from, below, d) = w in
              ⊎_elim (λ e. Memᴰ.append_left (pieces f (suc i) n) (rw (← e) at d)) (λ l. Memᴰ.append_right (f i) (back (j, l, omega arith, d)))
              (eq-or-lt_of_le from),
        )

    pub in_pieces : (n : ℕ) → Memᴰ x (pieces f 0 n) ↔ ((j : ℕ) × (j < n) × Memᴰ x (f j))
    in_pieces n =
        let (to, back) = in-pieces-from 0 n in
        (λ d. let (j, from, below, r) = to d in (j, omega arith, r), λ w. let (j, below, r) = w in back (j, omega arith, omega arith, r))

-- a function that puts a piece for each element of a list in front of those of the rest
module _ {A B : Type 0} (none : A) (h : ℕ → List A → List B) (f : ℕ → A → List B)
    (at-end : (i : ℕ) → h i [] ≡ []) (at_next : (i : ℕ) (x : A) (xs : List A) → h i (x ∷ xs) ≡ f i x ++ h (suc i) xs) (xs : List A) where
  pieces-from : (i n : ℕ) → i + n ≡ length xs → h i (drop i xs) ≡ pieces (λ j. f j (get_or xs j none)) i n
  unfolding pieces
  pieces-from i zero e = rw (drop_of_length-le xs {i = i} (omega arith)) (at-end i)
  pieces-from i (suc n) e =
      rw (drop-cons xs i none (omega arith)) (at_next i (get_or xs i none) (drop (suc i) xs) ∙ rw (pieces-from (suc i) n (omega arith)) refl)

  each-piece : h 0 xs ≡ pieces (λ j. f j (get_or xs j none)) 0 (length xs)
  each-piece = pieces-from 0 (length xs) (omega arith)

-- ---- the findings
module _ (p : Program) (ls : List Lemma) (g : Graph) where
  abbrev pub ofCombination : ℕ → ℕ → Literals → List Finding
  ofCombination k b c = unless (contradicted (literals_in 14 c.0) (literals_at g k)) (Forbid k b)

  abbrev pub ofAction : ℕ → ℕ → Action → List Finding
  ofAction k j a = cond (has_next (successor p ls j (literals_at g k))) (ends (applies p ls j (literals_at g k)) k j a.sets) []

  abbrev pub combinationsAt : ℕ → List Finding
  combinationsAt k = pieces (λ b. ofCombination k b (get_or p.forbidden b no_literals)) 0 (length p.forbidden)

  abbrev pub actions_at : ℕ → List Finding
  actions_at k = pieces (λ j. ofAction k j (action_of p j)) 0 (length p.actions)

  nodes-pieces : (k n : ℕ) → findings_from p ls g k n ≡ pieces (λ i. combinationsAt i ++ actions_at i) k n
  unfolding findings_from forbids runs_off pieces
  nodes-pieces k zero = refl
  nodes-pieces k (suc n) =
      let m = literals_at g k in
      rw (
        each-piece no_literals (forbids k m) (ofCombination k) (λ b. refl) (λ b c cs. refl) p.forbidden,
        each-piece none_action (runs_off p ls m k) (ofAction k) (λ j. refl) (λ j a rest. refl) p.actions,
        nodes-pieces (suc k) n,
      ) refl

  pub findings-pieces : findings p ls g ≡ pieces (λ k. combinationsAt k ++ actions_at k) 0 (count g)
  findings-pieces = nodes-pieces 0 (count g)
