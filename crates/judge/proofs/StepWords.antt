-- The STEP words at the front of a path list that Judge leaves tell the path: its actions, each below 16, and no others.
use mathlib.Core.Path.{◌≡◌, refl}
use mathlib.Core.List.{List, [], ◌∷◌, ◌++◌, map, reverse, reverse-cons}
use Prim.Native.Nat.{ℕ, zero, suc, ◌-◌, ◌<◌, ◌≤◌}
use native.Mathlib.Omega.{arith}
use native.Mathlib.Nat.{not-suc-le-zero}
use lib.ListN.{length, drop, replicate}
use Rattle.words.specs.Words.{word, kind_of, payload, STEP}
use Rattle.grammar.specs.Programs.{Program}
use Rattle.grammar.specs.WellFormed.{Each, WellFormed}
use Rattle.lemmas.specs.Lemmas.{Lemma}
use Rattle.search.specs.Search.{Origin, Root, From, Graph, count, origin}
use Rattle.search.specs.Paths.{hop, back}
use Rattle.records.specs.Records.{most_nodes}
use Rattle.abstraction.specs.Faithful.{FoundFirst, Faithful}
use Rattle.abstraction.proofs.Unique.{distance-number, distance-path}
use Rattle.verdict.specs.Verdicts.{path_words, path_list, steps_in, steps_to}

abbrev pub Actions : List ℕ → Type 0
Actions js = Each (λ j. j < 16) js

actions_append : (xs ys : List ℕ) → Actions xs → Actions ys → Actions (xs ++ ys)
actions_append [] ys h k = k
actions_append (x ∷ xs) ys h k = (h.0, actions_append xs ys h.1 k)

actions-reverse : (xs : List ℕ) → Actions xs → Actions (reverse xs)
actions-reverse [] h = tt
actions-reverse (x ∷ xs) h = rw (reverse-cons x xs) (actions_append (reverse xs) (x ∷ []) (actions-reverse xs h.1) (h.0, tt))

no_steps : (n : ℕ) (rest : List ℕ) → 0 < n → steps_in (replicate n 0 ++ rest) ≡ []
unfolding steps_in
no_steps zero rest h = absurd (not-suc-le-zero h)
no_steps (suc n) rest h = refl

steps_first : (js rest : List ℕ) → Actions js → steps_in rest ≡ [] → steps_in (map (word STEP) js ++ rest) ≡ js
unfolding steps_in
steps_first [] rest h e = e
steps_first (j ∷ js) rest h e =
    let low : j < 16 = h.0 in
    let kind : kind_of (word STEP j) ≡ STEP = omega arith in
    let is : payload (word STEP j) ≡ j = omega arith in
    rw (kind, is, steps_first js rest h.1 e)

module _ (p : Program) (ok : WellFormed p) (ls : List Lemma) (g : Graph) (f : Faithful p ls g) (few : count g ≤ most_nodes) where
  actions-back : (n k : ℕ) → k < count g → Actions (back g.origins n k)
  unfolding back
  actions-back zero k h = tt
  actions-back (suc n) k h = by (origin g k) (f.origins k h) (actions-back n)
    where
      by : (o : Origin) → FoundFirst p ls g k o → ((i : ℕ) → i < count g → Actions (back g.origins n i)) → Actions (hop o (back g.origins n))
      by Root c ih = tt
      by (From i j) c ih = (omega (arith, c.1, ok.actions.few), ih i (omega (arith, c.0)))

  module _ (k : ℕ) (h : k < count g) where
    pub actions-to : Actions (steps_to g k)
    actions-to = actions-reverse (back g.origins most_nodes k) (actions-back most_nodes k h)

    pub steps-few : length (steps_to g k) < path_words
    steps-few = omega (arith, distance-path p ls g f most_nodes k (omega arith) h, distance-number p ls g f k h)

    pub steps-told : (l₀ : List ℕ) → steps_in (path_list (steps_to g k) l₀) ≡ steps_to g k
    steps-told l₀ = steps_first (steps_to g k) _ actions-to (no_steps (path_words - length (steps_to g k)) (drop path_words l₀) (omega (arith, steps-few)))
