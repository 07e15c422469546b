-- Distances and walks in a graph that is formula (3)'s.
--     rising              distances never fall from one node to a later one
--     edge-near           an edge leads one further out at most
--     walk-far            no walk from node 0 to a node has fewer steps than its distance
--     path-walk           the path to a node, which has as many, is a walk
use mathlib.Core.Path.{◌≡◌, ap, ◌∙◌}
use mathlib.Core.Logic.{inl, ⊎_elim}
use mathlib.Core.List.{List, [], ◌∷◌, ◌++◌, reverse, reverse-cons}
use Prim.Native.Nat.{ℕ, zero, suc, ◌+◌, ◌<◌, ◌≤◌}
use native.Mathlib.Omega.{arith}
use native.Mathlib.Nat.{not-suc-le-zero}
use lib.ListN.{length}
use Rattle.grammar.specs.Programs.{Program}
use Rattle.lemmas.specs.Lemmas.{Lemma}
use Rattle.formula.specs.Formula.{Monomial, False, And}
use Rattle.search.specs.Search.{Answer, To, None, Origin, Root, From, Graph, count, origin, distance, distance_by, edge}
use Rattle.search.specs.Paths.{Walk, stand, go, hop, back, path}
use Rattle.search.proofs.Count.{lt_or_le}
use Rattle.abstraction.specs.Abstraction.{successor}
use Rattle.abstraction.specs.Faithful.{literals_at, Leads, FoundFirst, FoundBefore, Faithful}
use Rattle.abstraction.proofs.Order.{earlier-node}
use Rattle.abstraction.proofs.Unique.{distance-number}

-- one action more
walk_on : (a : ℕ) (g : Graph) {k m n j : ℕ} {js : List ℕ} → Walk a g k js m → j < a → edge a g m j ≡ To n → n < count g → Walk a g k (js ++ (j ∷ [])) n
walk_on a g (stand h) b e l = go b e (stand l)
walk_on a g (go c d w) b e l = go c d (walk_on a g w b e l)

module _ (p : Program) (ls : List Lemma) (g : Graph) (f : Faithful p ls g) where
  abbrev actions : ℕ
  actions = length p.actions

  -- by the parents, which come before
  rising-below : (n i k : ℕ) → k < n → i ≤ k → k < count g → distance g i ≤ distance g k
  rising-below zero i k l le h = absurd (not-suc-le-zero l)
  rising-below (suc n) i k l le h =
      ⊎_elim (λ lt. by (origin g i) (origin g k) (f.origins k h) (f.numbered i k lt h) (f.distances i (omega arith)) (f.distances k h) (rising-below n))
      (λ ge. let e : i ≡ k = omega (arith, ge) in omega (arith, ap (distance g) e)) (lt_or_le i k)
    where
      by : (o q : Origin) → FoundFirst p ls g k q → FoundBefore o q → distance g i ≡ distance_by g.distances o → distance g k ≡ distance_by g.distances q
          → ((i k : ℕ) → k < n → i ≤ k → k < count g → distance g i ≤ distance g k) → distance g i ≤ distance g k
      by Root (From t u) c b d e before = omega (arith, d)
      by (From r s) (From t u) c b d e before = omega (arith, d, e, before r t (omega (arith, c.0)) (earlier-node b) (omega (arith, c.0)))
      by Root Root c b d e before = elim b [ ]
      by (From r s) Root c b d e before = elim b [ ]

  pub rising : (i k : ℕ) → i ≤ k → k < count g → distance g i ≤ distance g k
  rising i k = rising-below (suc k) i k (omega arith)

  leads-to : {m : ℕ} (x : Monomial) (e : Answer) → Leads g x e → e ≡ To m → (m < count g) × (x ≡ And (literals_at g m))
  leads-to False None c is = let z : ◌≡◌ {A = ℕ} 0 1 = cc in absurd (omega arith)
  leads-to {m} (And s) (To n) c is = let same : n ≡ m = cc in rw (← same, c.1) (c.0, cc)
  leads-to {m = m} False (To n) c is = elim c [ ]
  leads-to {m = m} (And s) None c is = elim c [ ]

  pub edge-near : (k j m : ℕ) → k < count g → j < actions → edge actions g k j ≡ To m → (m < count g) × (distance g m ≤ suc (distance g k))
  edge-near k j m h l e =
      let (b, next) = leads-to (successor p ls j (literals_at g k)) (edge actions g k j) (f.edges k j h l) e in
      (b, by (origin g m) (f.origins m b) next (f.distances m b))
    where
      by : (o : Origin) → FoundFirst p ls g m o → successor p ls j (literals_at g k) ≡ And (literals_at g m) → distance g m ≡ distance_by g.distances o → distance g m ≤ suc (distance g k)
      by Root c next d = omega (arith, d)
      by (From i q) c next d = ⊎_elim (λ lt. absurd (c.3 k j h l next (inl lt))) (λ le. omega (arith, d, rising i k le h)) (lt_or_le k i)

  walk-out : {k n : ℕ} {js : List ℕ} → k < count g → Walk actions g k js n → distance g n ≤ distance g k + length js
  walk-out h (stand b) = omega arith
  walk-out {k} h (go {m = m} {j = j} l e w) = let (b, near) = edge-near k j m h l e in omega (arith, near, walk-out b w)

  pub walk-far : {n : ℕ} {js : List ℕ} → 0 < count g → Walk actions g 0 js n → distance g n ≤ length js
  walk-far h w = omega (arith, walk-out h w, distance-number p ls g f 0 h)

  -- ---- the path to a node, by the parents
  at-root : (k : ℕ) → k ≡ 0 → k < count g → Walk actions g 0 [] k
  at-root k z h = rw z (stand (rw z at h))

  leads-back : (k : ℕ) → k < count g → (x : Monomial) (e : Answer) → Leads g x e → x ≡ And (literals_at g k) → e ≡ To k
  leads-back k h False None c is = let z : ◌≡◌ {A = ℕ} 0 1 = cc in absurd (omega arith)
  leads-back k h (And s) (To n) c is = let same : s ≡ literals_at g k = cc in ap To (f.once n k c.0 h (c.1 ∙ same))
  leads-back k h False (To n) c is = elim c [ ]
  leads-back k h (And s) None c is = elim c [ ]

  pub path-walk : (n k : ℕ) → k ≤ n → k < count g → Walk actions g 0 (path g.origins n k) k
  unfolding back
  path-walk zero k le h = at-root k (omega arith) h
  path-walk (suc n) k le h = by (origin g k) (f.origins k h) (path-walk n)
    where
      by : (o : Origin) → FoundFirst p ls g k o → ((i : ℕ) → i ≤ n → i < count g → Walk actions g 0 (reverse (back g.origins n i)) i)
          → Walk actions g 0 (reverse (hop o (back g.origins n))) k
      by Root c before = at-root k c.0 h
      by (From i j) c before =
          let b : i < count g = omega (arith, c.0) in
          let on = leads-back k h (successor p ls j (literals_at g i)) (edge actions g i j) (f.edges i j b c.1) c.2 in
          rw reverse-cons (walk_on actions g (before i (omega (arith, c.0)) b) c.1 on h)
