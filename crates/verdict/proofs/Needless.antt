-- A needless lemma can be left out: the findings are the same.
use mathlib.Core.Path.{◌≡◌, refl}
use mathlib.Core.Bool.{true}
use mathlib.Core.List.{List, [], ◌∷◌, ◌++◌, Memᴰ}
use Prim.Native.Nat.{ℕ, zero, suc}
use native.Mathlib.Omega.{arith}
use Rattle.grammar.specs.Programs.{Assignment, Action, Program}
use Rattle.lemmas.specs.Lemmas.{NotBelow, NotAbove, Lemma}
use Rattle.frame.specs.Frame.{untouched}
use Rattle.words.specs.LiteralSets.{Literal, predicate_of, literals_in}
use Rattle.search.specs.Search.{Graph, count}
use Rattle.abstraction.specs.Abstraction.{applies}
use Rattle.abstraction.specs.Faithful.{literals_at}
use Rattle.abstraction.proofs.Needless.{Says, others, successor-same}
use Rattle.verdict.specs.Verdicts.{ends, runs_off, findings_from, findings}

module _ (p : Program) (xs ys : List Lemma) (l : Lemma) (m : Literal) (says : Says l m) (free : untouched p l.source (predicate_of m) ≡ true)
    (own : Memᴰ m (literals_in 14 l.premises.0)) where
  abbrev more : List Lemma
  more = xs ++ (l ∷ ys)

  abbrev fewer : List Lemma
  fewer = xs ++ ys

  ends_same : (node : List Literal) (k j : ℕ) (ss : List Assignment) → ends (applies p more j node) k j ss ≡ ends (applies p fewer j node) k j ss
  unfolding ends
  ends_same node k j [] = refl
  ends_same node k j (s ∷ ss) =
      let same = others p xs ys l m says free own j node in
      rw (same NotBelow s.variable (λ e. omega arith) (λ e. omega arith), same NotAbove s.variable (λ e. omega arith) (λ e. omega arith), ends_same node k j ss)

  runs-off-same : (node : List Literal) (k j : ℕ) (rest : List Action) → runs_off p more node k j rest ≡ runs_off p fewer node k j rest
  unfolding runs_off
  runs-off-same node k j [] = refl
  runs-off-same node k j (a ∷ rest) =
      rw (successor-same p xs ys l m says free own j node, ends_same node k j a.sets, runs-off-same node k (suc j) rest)

  from-same : (g : Graph) (k n : ℕ) → findings_from p more g k n ≡ findings_from p fewer g k n
  unfolding findings_from
  from-same g k zero = refl
  from-same g k (suc n) = rw (runs-off-same (literals_at g k) k 0 p.actions, from-same g (suc k) n)

  pub findings-same : (g : Graph) → findings p more g ≡ findings p fewer g
  findings-same g = from-same g 0 (count g)
