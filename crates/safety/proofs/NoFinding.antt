-- What a node without findings has: every forbidden combination is contradicted there, and both ends of what an action with a successor sets are shown. A graph without any has such nodes only.
use mathlib.Core.Path.{◌≡◌, refl}
use mathlib.Core.Bool.{Bool, true, false, cond}
use mathlib.Core.List.{List, [], ◌∷◌, ◌++◌, cons≢nil}
use Prim.Native.Nat.{ℕ, zero, suc, ◌+◌, ◌<◌}
use native.Mathlib.Nat.{not-suc-le-zero, le_of_suc-le-suc}
use native.Mathlib.Omega.{arith}
use lib.IntN.{ℤ}
use lib.ListN.{length, get_or}
use Rattle.words.specs.declared.Literals.{Literals}
use Rattle.grammar.specs.Programs.{Assignment, Action, Program}
use Rattle.grammar.specs.WellFormed.{Each}
use Rattle.programs.proofs.Places.{none_action}
use Rattle.runs.specs.Runs.{action_of, some_met, forbidden}
use Rattle.lemmas.specs.Lemmas.{Goal, NotBelow, NotAbove, Lemma}
use Rattle.words.specs.LiteralSets.{Literal, literals_in}
use Rattle.search.specs.Search.{Graph, count}
use Rattle.abstraction.specs.Abstraction.{applies, successor}
use Rattle.abstraction.specs.Faithful.{literals_at}
use Rattle.verdict.specs.Verdicts.{contradicted, unless, forbids, ends, has_next, runs_off, findings_at, findings_from, findings}
use Rattle.verdict.specs.declared.Finding.{Finding}
use Rattle.verdict.specs.declared.Finding.TheVariants.{RunOff, Forbid}
use Rattle.safety.proofs.Literals.{TrueAt, not-met}

none_split : (xs ys : List Finding) → xs ++ ys ≡ [] → (xs ≡ []) × (ys ≡ [])
none_split [] ys e = (refl, e)
none_split (x ∷ xs) ys e = absurd (cons≢nil e)

unless-none : (b : Bool) (f : Finding) → unless b f ≡ [] → b ≡ true
unless-none true f e = refl
unless-none false f e = absurd (cons≢nil e)

-- ---- a node
forbids-none : (p : Program) (s : List ℤ) (k : ℕ) (m : List Literal) (b : ℕ) (cs : List Literals) → Each (TrueAt p s) m → forbids k m b cs ≡ [] → some_met p cs s ≡ false
unfolding forbids some_met
forbids-none p s k m b [] h e = refl
forbids-none p s k m b (c ∷ cs) h e =
    let x = contradicted (literals_in 14 c.0) m in
    let (first, rest) = none_split (unless x (Forbid k b)) (forbids k m (suc b) cs) e in
    rw (not-met p s c m h (unless-none x (Forbid k b) first)) (forbids-none p s k m (suc b) cs h rest)

-- both ends of a variable are shown
abbrev pub Ends : (Goal → ℕ → Bool) → ℕ → Type 0
Ends shows v = (shows NotBelow v ≡ true) × (shows NotAbove v ≡ true)

ends-none : (shows : Goal → ℕ → Bool) (k j : ℕ) (ss : List Assignment) → ends shows k j ss ≡ [] → Each (λ x. Ends shows x.variable) ss
unfolding ends
ends-none shows k j [] e = tt
ends-none shows k j (x ∷ ss) e =
    let v = x.variable in
    let low = unless (shows NotBelow v) (RunOff k j v false) in
    let high = unless (shows NotAbove v) (RunOff k j v true) in
    let (a, more) = none_split low (high ++ ends shows k j ss) e in
    let (b, rest) = none_split high (ends shows k j ss) more in
    ((unless-none (shows NotBelow v) (RunOff k j v false) a, unless-none (shows NotAbove v) (RunOff k j v true) b), ends-none shows k j ss rest)

module _ (p : Program) (ls : List Lemma) (g : Graph) where
  abbrev linked : ℕ → ℕ → Bool
  linked k j = has_next (successor p ls j (literals_at g k))

  abbrev ends_at : ℕ → ℕ → Action → List Finding
  ends_at k j a = ends (applies p ls j (literals_at g k)) k j a.sets

  runs-off-none : (k i : ℕ) (xs : List Action) → runs_off p ls (literals_at g k) k i xs ≡ [] → (j n : ℕ) → j ≡ i + n → n < length xs → linked k j ≡ true → ends_at k j (get_or xs n none_action) ≡ []
  unfolding runs_off
  runs-off-none k i [] e j n q l h = absurd (not-suc-le-zero l)
  runs-off-none k i (a ∷ xs) e j zero q l h =
      let same : i ≡ j = omega arith in
      let first = (none_split (cond (linked k i) (ends_at k i a) []) (runs_off p ls (literals_at g k) k (suc i) xs) e).0 in
      rw (same, h) at first
  runs-off-none k i (a ∷ xs) e j (suc n) q l h =
      runs-off-none k (suc i) xs (none_split (cond (linked k i) (ends_at k i a) []) (runs_off p ls (literals_at g k) k (suc i) xs) e).1 j n (omega arith) (le_of_suc-le-suc l) h

  -- ---- the graph
  from-none : (i n : ℕ) → findings_from p ls g i n ≡ [] → (k j : ℕ) → j ≡ i + k → k < n → findings_at p ls g j ≡ []
  unfolding findings_from
  from-none i zero e k j q l = absurd (not-suc-le-zero l)
  from-none i (suc n) e zero j q l =
      let same : j ≡ i = omega arith in
      rw same (none_split (findings_at p ls g i) (findings_from p ls g (suc i) n) e).0
  from-none i (suc n) e (suc k) j q l = from-none (suc i) n (none_split (findings_at p ls g i) (findings_from p ls g (suc i) n) e).1 k j (omega arith) (le_of_suc-le-suc l)

  pub none-anywhere : findings p ls g ≡ [] → (k : ℕ) → k < count g → findings_at p ls g k ≡ []
  none-anywhere none k stored = from-none 0 (count g) none k k (omega arith) stored

  module _ (k : ℕ) (none : findings_at p ls g k ≡ []) where
    at-node : (forbids k (literals_at g k) 0 p.forbidden ≡ []) × (runs_off p ls (literals_at g k) k 0 p.actions ≡ [])
    at-node = none_split (forbids k (literals_at g k) 0 p.forbidden) (runs_off p ls (literals_at g k) k 0 p.actions) none

    -- no state that the node describes is forbidden
    pub not-forbidden : (s : List ℤ) → Each (TrueAt p s) (literals_at g k) → forbidden p s ≡ false
    not-forbidden s h = forbids-none p s k (literals_at g k) 0 p.forbidden h at-node.0

    -- each variable that an action with a successor sets has both ends shown
    pub ends-shown : (j : ℕ) → j < length p.actions → linked k j ≡ true → Each (λ x. Ends (applies p ls j (literals_at g k)) x.variable) (action_of p j).sets
    ends-shown j l h = ends-none (applies p ls j (literals_at g k)) k j (action_of p j).sets (runs-off-none k 0 p.actions at-node.1 j j (omega arith) l h)
