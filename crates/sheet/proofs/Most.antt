-- A graph has at most 135,168 findings: at each node 8 combinations, and 16 actions with both ends of 8 variables.
use mathlib.Core.Bool.{Bool, true, false, cond}
use mathlib.Core.List.{List, [], ◌∷◌, ◌++◌}
use Prim.Native.Nat.{ℕ, zero, suc, ◌+◌, ◌*◌, ◌≤◌}
use native.Mathlib.Omega.{arith}
use lib.ListN.{length, get_or, length-append}
use Rattle.words.specs.Words.{no_literals}
use Rattle.words.specs.LiteralSets.{literals_in}
use Rattle.words.specs.Limits.{most_nodes, most_forbidden, most_actions, most_variables, most_findings}
use Rattle.grammar.specs.Programs.{Assignment, Program}
use Rattle.grammar.specs.WellFormed.{Rising, WellFormed}
use Rattle.runs.specs.Runs.{action_of}
use Rattle.lemmas.specs.Lemmas.{Goal, NotBelow, NotAbove, Lemma}
use Rattle.lemmas.proofs.LemmaLaws.{action-rising}
use Rattle.search.specs.Search.{Graph, count}
use Rattle.abstraction.specs.Abstraction.{applies, successor}
use Rattle.abstraction.specs.Faithful.{literals_at}
use Rattle.verdict.specs.Verdicts.{contradicted, unless, ends, has_next, findings}
use Rattle.verdict.specs.declared.Finding.{Finding}
use Rattle.verdict.specs.declared.Finding.TheVariants.{Forbid, RunOff}
use Rattle.sheet.proofs.Pieces.{pieces, ofCombination, ofAction, combinationsAt, actions_at, findings-pieces}

length_pieces : {A : Type 0} (f : ℕ → List A) (m : ℕ) → ((j : ℕ) → length (f j) ≤ m) → (i n : ℕ) → length (pieces f i n) ≤ n * m
unfolding pieces
length_pieces f m h i zero = omega arith
length_pieces f m h i (suc n) = omega (arith, length-append (f i) (pieces f (suc i) n), h i, length_pieces f m h (suc i) n)

length-unless : (b : Bool) (f : Finding) → length (unless b f) ≤ 1
length-unless true f = omega arith
length-unless false f = omega arith

-- rising variables from v on are few
length-ends : (shows : Goal → ℕ → Bool) (k j vars v : ℕ) (ss : List Assignment) → v ≤ vars → Rising vars v ss → length (ends shows k j ss) + 2 * v ≤ 2 * vars
unfolding ends
length-ends shows k j vars v [] h r = omega arith
length-ends shows k j vars v (s ∷ ss) h r =
    let low = unless (shows NotBelow s.variable) (RunOff k j s.variable false) in
    let high = unless (shows NotAbove s.variable) (RunOff k j s.variable true) in
    let rest = length-ends shows k j vars (suc s.variable) ss (omega (arith, r.0.below)) r.1 in
    omega (
      arith,
      length-append low (high ++ ends shows k j ss),
      length-append high (ends shows k j ss),
      length-unless (shows NotBelow s.variable) (RunOff k j s.variable false),
      length-unless (shows NotAbove s.variable) (RunOff k j s.variable true),
      rest,
      r.0.from,
    )

if_few : (b : Bool) (fs : List Finding) (m : ℕ) → length fs ≤ m → length (cond b fs []) ≤ m
if_few true fs m h = h
if_few false fs m h = omega arith

module _ (p : Program) (good : WellFormed p) (ls : List Lemma) (g : Graph) where
  few-combinations : (k : ℕ) → length (combinationsAt p ls g k) ≤ most_forbidden
  few-combinations k =
      let at : ℕ → List Finding = λ b. ofCombination p ls g k b (get_or p.forbidden b no_literals) in
      let each : (b : ℕ) → length (at b) ≤ 1 = λ b. length-unless (contradicted (literals_in 14 (get_or p.forbidden b no_literals).0) (literals_at g k)) (Forbid k b) in
      omega (arith, length_pieces at 1 each 0 (length p.forbidden), good.forbidden.few)

  few-of : (k j : ℕ) → length (ofAction p ls g k j (action_of p j)) ≤ most_variables * 2
  few-of k j =
      let vars = length p.ranges in
      let shows = applies p ls j (literals_at g k) in
      let all = length-ends shows k j vars 0 (action_of p j).sets (omega arith) (action-rising vars p.actions j good.actions.each) in
      if_few (has_next (successor p ls j (literals_at g k))) (ends shows k j (action_of p j).sets) (most_variables * 2) (omega (arith, all, good.ranges.few))

  few-ends : (k : ℕ) → length (actions_at p ls g k) ≤ most_actions * (most_variables * 2)
  few-ends k =
      let at : ℕ → List Finding = λ j. ofAction p ls g k j (action_of p j) in
      omega (arith, length_pieces at (most_variables * 2) (few-of k) 0 (length p.actions), good.actions.few)

  few-at : (k : ℕ) → length (combinationsAt p ls g k ++ actions_at p ls g k) ≤ most_forbidden + most_actions * (most_variables * 2)
  few-at k = omega (arith, length-append (combinationsAt p ls g k) (actions_at p ls g k), few-combinations k, few-ends k)

  pub findings-few : count g ≤ most_nodes → length (findings p ls g) ≤ most_findings
  findings-few h =
      let at : ℕ → List Finding = λ k. combinationsAt p ls g k ++ actions_at p ls g k in
      rw (findings-pieces p ls g) (omega (arith, length_pieces at (most_forbidden + most_actions * (most_variables * 2)) few-at 0 (count g), h))
