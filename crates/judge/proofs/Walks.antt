-- Every finding is at a node of the graph, and the first at the lowest node that has one.
use mathlib.Core.Path.{◌≡◌, refl, sym, ap}
use mathlib.Core.Logic.{⊎_elim}
use mathlib.Core.Bool.{Bool, true, false, cond}
use mathlib.Core.List.{List, [], ◌∷◌, ◌++◌, cons≢nil}
use Prim.Native.Nat.{ℕ, zero, suc, ◌+◌, ◌<◌, ◌≤◌}
use native.Mathlib.Omega.{arith}
use lib.ListN.{length}
use Rattle.words.specs.declared.Literals.{Literals}
use Rattle.grammar.specs.Programs.{Assignment, Action, Program}
use Rattle.grammar.specs.WellFormed.{Each}
use Rattle.lemmas.specs.Lemmas.{Goal, NotBelow, NotAbove, Lemma}
use Rattle.words.specs.Words.{payload}
use Rattle.words.specs.LiteralSets.{Literal, literals_in}
use Rattle.search.specs.Search.{Answer, Graph, Done, count}
use Rattle.search.proofs.Count.{lt_or_le}
use Rattle.search.proofs.Theorem.{Whole, whole}
use Rattle.records.specs.Records.{most_nodes}
use Rattle.abstraction.specs.Abstraction.{applies, successor, start, answer, graph}
use Rattle.abstraction.specs.Faithful.{literals_at}
use Rattle.verdict.specs.Verdicts.{contradicted, unless, forbids, ends, has_next, runs_off, findings_at, findings_from, findings, node_of}
use Rattle.verdict.specs.declared.Finding.{Finding}
use Rattle.verdict.specs.declared.Finding.TheVariants.{Forbid, RunOff}

-- ---- every finding is at a node of the graph
abbrev pub At : ℕ → List Finding → Type 0
At k fs = Each (λ f. node_of f ≡ k) fs

module _ (P : Finding → Type 0) where
  each_append : (xs ys : List Finding) → Each P xs → Each P ys → Each P (xs ++ ys)
  each_append [] ys h q = q
  each_append (x ∷ xs) ys h q = (h.0, each_append xs ys h.1 q)

  each_weaken : (Q : Finding → Type 0) → ((f : Finding) → P f → Q f) → (xs : List Finding) → Each P xs → Each Q xs
  each_weaken Q g [] h = tt
  each_weaken Q g (x ∷ xs) h = (g x h.0, each_weaken Q g xs h.1)

unless-at : (k : ℕ) (b : Bool) (f : Finding) → node_of f ≡ k → At k (unless b f)
unless-at k true f h = tt
unless-at k false f h = (h, tt)

forbids-at : (k : ℕ) (m : List Literal) (b : ℕ) (cs : List Literals) → At k (forbids k m b cs)
unfolding forbids
forbids-at k m b [] = tt
forbids-at k m b (c ∷ cs) =
    each_append (λ f. node_of f ≡ k) (unless (contradicted (literals_in 14 c.0) m) (Forbid k b)) (forbids k m (suc b) cs)
    (unless-at k (contradicted (literals_in 14 c.0) m) (Forbid k b) refl) (forbids-at k m (suc b) cs)

ends_at : (shows : Goal → ℕ → Bool) (k j : ℕ) (ss : List Assignment) → At k (ends shows k j ss)
unfolding ends
ends_at shows k j [] = tt
ends_at shows k j (s ∷ ss) =
    each_append (λ f. node_of f ≡ k) (unless (shows NotBelow s.variable) (RunOff k j s.variable false)) _ (unless-at k (shows NotBelow s.variable) (RunOff k j s.variable false) refl)
    (each_append (λ f. node_of f ≡ k) (unless (shows NotAbove s.variable) (RunOff k j s.variable true)) (ends shows k j ss)
    (unless-at k (shows NotAbove s.variable) (RunOff k j s.variable true) refl) (ends_at shows k j ss))

if_at : (k : ℕ) (b : Bool) (fs : List Finding) → At k fs → At k (cond b fs [])
if_at k true fs h = h
if_at k false fs h = tt

abbrev pub next : Program → List Lemma → ℕ → ℕ → Answer
next p ls w j = answer (successor p ls j (literals_in 14 (payload w)))

module _ (p : Program) (ls : List Lemma) (g : Graph) where
  runs-off-at : (k j : ℕ) (xs : List Action) → At k (runs_off p ls (literals_at g k) k j xs)
  unfolding runs_off
  runs-off-at k j [] = tt
  runs-off-at k j (a ∷ rest) =
      let here = ends (applies p ls j (literals_at g k)) k j a.sets in
      let b = has_next (successor p ls j (literals_at g k)) in
      each_append (λ f. node_of f ≡ k) (cond b here []) (runs_off p ls (literals_at g k) k (suc j) rest) (if_at k b here (ends_at (applies p ls j (literals_at g k)) k j a.sets)) (runs-off-at k (suc j) rest)

  pub findings-at : (k : ℕ) → At k (findings_at p ls g k)
  findings-at k = each_append (λ f. node_of f ≡ k) (forbids k (literals_at g k) 0 p.forbidden) (runs_off p ls (literals_at g k) k 0 p.actions) (forbids-at k (literals_at g k) 0 p.forbidden) (runs-off-at k 0 p.actions)

  within-from : (k n : ℕ) → Each (λ f. node_of f < k + n) (findings_from p ls g k n)
  unfolding findings_from
  within-from k zero = tt
  within-from k (suc n) =
      each_append (λ f. node_of f < k + suc n) (findings_at p ls g k) (findings_from p ls g (suc k) n)
      (each_weaken (λ f. node_of f ≡ k) (λ f. node_of f < k + suc n) (λ f e. omega (arith, e)) (findings_at p ls g k) (findings-at k))
      (each_weaken (λ f. node_of f < suc k + n) (λ f. node_of f < k + suc n) (λ f e. omega (arith, e)) (findings_from p ls g (suc k) n) (within-from (suc k) n))

  pub findings-within : Each (λ f. node_of f < count g) (findings p ls g)
  findings-within = each_weaken (λ f. node_of f < 0 + count g) (λ f. node_of f < count g) (λ f e. omega (arith, e)) (findings p ls g) (within-from 0 (count g))

  -- ---- nodes before the first finding's have none
  none_before : (i n : ℕ) (x : Finding) (fs : List Finding) → findings_from p ls g i n ≡ x ∷ fs → (k : ℕ) → i ≤ k → k < node_of x → findings_at p ls g k ≡ []
  unfolding findings_from
  none_before i zero x fs e k le lt = absurd (cons≢nil (sym e))
  none_before i (suc n) x fs e k le lt = go (findings_at p ls g i) refl e (none_before (suc i) n x fs)
    where
      go : (ys : List Finding) → findings_at p ls g i ≡ ys → ys ++ findings_from p ls g (suc i) n ≡ x ∷ fs
          → (findings_from p ls g (suc i) n ≡ x ∷ fs → (k : ℕ) → suc i ≤ k → k < node_of x → findings_at p ls g k ≡ []) → findings_at p ls g k ≡ []
      go [] is q on = ⊎_elim (λ l. on q k l lt) (λ l. let same : k ≡ i = omega (arith, l, le) in rw same is) (lt_or_le i k)
      go (y ∷ ys) is q on =
          let first : node_of y ≡ i = (rw is at (findings-at i)).0 in
          let same : y ≡ x = cc in
          absurd (omega (arith, first, ap node_of same, le, lt))

  pub none-lower : (x : Finding) (fs : List Finding) → findings p ls g ≡ x ∷ fs → (k : ℕ) → k < node_of x → findings_at p ls g k ≡ []
  none-lower x fs e k lt = none_before 0 (count g) x fs e k (omega arith) lt

  -- ---- the graph that the exploration ends with
  module _ (e : graph p ls ≡ Done g) where
    known : Whole (answer (start p ls)) (next p ls) (length p.actions) most_nodes g
    known = whole (answer (start p ls)) (next p ls) (length p.actions) most_nodes g e

    pub graph-few : count g ≤ most_nodes
    graph-few = known.within
