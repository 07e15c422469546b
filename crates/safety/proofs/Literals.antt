-- Literals that are true at a state: a set whose literals are among true ones is met, and one that a true literal contradicts is not.
use mathlib.Core.Path.{◌≡◌, refl, sym, ◌∙◌}
use mathlib.Core.Bool.{Bool, true, false}
use mathlib.Core.Logic.{⊎_elim}
use mathlib.Core.List.{List, [], ◌∷◌, ◌++◌, map}
use Prim.Native.Nat.{ℕ, zero, suc, ◌+◌, ◌≤◌, ◌<◌}
use native.Mathlib.Nat.{not-suc-le-zero}
use native.Mathlib.Decide.{ℕ_discrete}
use native.Mathlib.Omega.{arith}
use lib.IntN.{ℤ, pos}
use lib.Signed.{clash_ℤ}
use lib.ListN.{length}
use borrow.Author.Tests.{eqb-true}
use Rattle.integers.proofs.Tests.{and-true, le_z_true, le_z_false, le_le_z, or_true, false-true}
use Rattle.words.specs.declared.Literals.{Literals}
use Rattle.rows.specs.declared.Row.{Row}
use Rattle.rows.specs.Rows.{row_value, negated, holds}
use Rattle.rows.proofs.Laws.{negation}
use Rattle.grammar.specs.Programs.{Program}
use Rattle.grammar.specs.WellFormed.{Each}
use Rattle.runs.specs.Runs.{all_hold, predicate, literal_row, meets}
use Rattle.lemmas.proofs.Sound.{fails}
use Rattle.words.specs.LiteralSets.{Literal, B, NotB, literal_if, literals_in, has}
use Rattle.abstraction.specs.Abstraction.{same_literal, among, all_among}
use Rattle.verdict.specs.Verdicts.{opposite, contradicted}

-- a literal of a predicate of the program, true at the state
abbrev pub TrueAt : Program → List ℤ → Literal → Type 0
TrueAt p s (B j) = (j < length p.predicates) × (holds (predicate p j) s ≡ true)
TrueAt p s (NotB j) = (j < length p.predicates) × (holds (predicate p j) s ≡ false)

-- ---- something holds of every literal of a list
module _ (P : Literal → Type 0) where
  pub each_append : (xs ys : List Literal) → Each P xs → Each P ys → Each P (xs ++ ys)
  each_append [] ys h k = k
  each_append (x ∷ xs) ys h k = (h.0, each_append xs ys h.1 k)

  each-split : (xs ys : List Literal) → Each P (xs ++ ys) → Each P xs × Each P ys
  each-split [] ys h = (tt, h)
  each-split (x ∷ xs) ys h = let (a, b) = each-split xs ys h.1 in ((h.0, a), b)

  same-literal : (l m : Literal) → same_literal l m ≡ true → P m → P l
  same-literal (B i) (B j) e h = rw (eqb-true i j e) h
  same-literal (B i) (NotB j) e h = false-true e
  same-literal (NotB i) (B j) e h = false-true e
  same-literal (NotB i) (NotB j) e h = rw (eqb-true i j e) h

  pub among-each : (l : Literal) (ms : List Literal) → Each P ms → among l ms ≡ true → P l
  unfolding among
  among-each l [] h e = false-true e
  among-each l (m ∷ ms) h e = ⊎_elim (λ q. same-literal l m q h.0) (among-each l ms h.1) (or_true (same_literal l m) (among l ms) e)

  pub all-among-each : (ls ms : List Literal) → Each P ms → all_among ls ms ≡ true → Each P ls
  unfolding all_among
  all-among-each [] ms h e = tt
  all-among-each (l ∷ ls) ms h e = let (a, b) = and-true (among l ms) (all_among ls ms) e in (among-each l ms h a, all-among-each ls ms h b)

  contradicted-each : (ls ms : List Literal) → Each P ms → Each (λ l. P (opposite l) → ⊥) ls → contradicted ls ms ≡ true → ⊥
  unfolding contradicted
  contradicted-each [] ms h k e = false-true e
  contradicted-each (l ∷ ls) ms h k e =
      ⊎_elim (λ q. k.0 (among-each (opposite l) ms h q)) (contradicted-each ls ms h k.1) (or_true (among (opposite l) ms) (contradicted ls ms) e)

  -- ---- of every literal of a set
  if-out : (b : Bool) (l : Literal) → Each P (literal_if b l) → b ≡ true → P l
  if-out true l h e = h.0
  if-out false l h e = false-true e

  if-in : (b : Bool) (l : Literal) → (b ≡ true → P l) → Each P (literal_if b l)
  if-in true l h = (h refl, tt)
  if-in false l h = tt

  -- of those of predicate k
  abbrev Of : ℕ → ℕ → Type 0
  Of set k = (has k set ≡ true → P (B k)) × (has (14 + k) set ≡ true → P (NotB k))

  literals-out : (set n : ℕ) → Each P (literals_in n set) → (k : ℕ) → k < n → Of set k
  unfolding literals_in
  literals-out set zero h k l = absurd (not-suc-le-zero l)
  literals-out set (suc n) h k l =
      let bs = literal_if (has n set) (B n) in
      let ns = literal_if (has (14 + n) set) (NotB n) in
      let (first, last) = each-split (literals_in n set) (bs ++ ns) h in
      let (x, y) = each-split bs ns last in
      elim (ℕ_discrete k n) [
        | yes e ↦ rw e (if-out (has n set) (B n) x, if-out (has (14 + n) set) (NotB n) y)
        | no e ↦ literals-out set n first k (omega arith)
      ]

  literals-in : (set n : ℕ) → ((k : ℕ) → k < n → Of set k) → Each P (literals_in n set)
  unfolding literals_in
  literals-in set zero h = tt
  literals-in set (suc n) h =
      let bs = literal_if (has n set) (B n) in
      let ns = literal_if (has (14 + n) set) (NotB n) in
      let (x, y) = h n (omega arith) in
      each_append (literals_in n set) (bs ++ ns) (literals-in set n (λ k l. h k (omega arith)))
      (each_append bs ns (if-in (has n set) (B n) x) (if-in (has (14 + n) set) (NotB n) y))

-- ---- the rows of a set's literals
negated-holds : (r : Row) (s : List ℤ) → holds r s ≡ false → holds (negated r) s ≡ true
negated-holds r s e = le_le_z (pos 0) (row_value (negated r) s) ((negation r s).1 (clash_ℤ (le_z_false (pos 0) (row_value r s) e)))

negated-fails : (r : Row) (s : List ℤ) → holds (negated r) s ≡ true → holds r s ≡ false
negated-fails r s e = fails r s ((negation r s).0 (le_z_true (pos 0) (row_value (negated r) s) e))

-- two tests, that the row holds and that it fails, are right where they are true
abbrev pub Right : Row → List ℤ → Bool → Bool → Type 0
Right r s b c = (b ≡ true → holds r s ≡ true) × (c ≡ true → holds r s ≡ false)

-- ---- the rows of some literals
module _ (p : Program) (s : List ℤ) where
  rows-hold : (ms : List Literal) → Each (TrueAt p s) ms → all_hold (map (literal_row p) ms) s ≡ true
  unfolding all_hold
  rows-hold [] h = refl
  rows-hold (B j ∷ ms) h = rw (h.0.1, rows-hold ms h.1) refl
  rows-hold (NotB j ∷ ms) h = rw (negated-holds (predicate p j) s h.0.1, rows-hold ms h.1) refl

  rows-held : (ms : List Literal) → all_hold (map (literal_row p) ms) s ≡ true → Each (λ l. holds (literal_row p l) s ≡ true) ms
  unfolding all_hold
  rows-held [] e = tt
  rows-held (l ∷ ms) e = let (a, b) = and-true (holds (literal_row p l) s) (all_hold (map (literal_row p) ms) s) e in (a, rows-held ms b)

-- ---- a set at a state
module _ (p : Program) (s : List ℤ) (l : Literals) where
  -- its literals are true: it is met
  pub met : length p.predicates ≤ 14 → Each (TrueAt p s) (literals_in 14 l.0) → meets p l s ≡ true
  met few h = rows-hold p s (literals_in (length p.predicates) l.0) (literals-in (TrueAt p s) l.0 (length p.predicates) (λ k b. literals-out (TrueAt p s) l.0 14 h k (omega arith)))

  -- a true literal contradicts it: it is not
  pub not-met : (m : List Literal) → Each (TrueAt p s) m → contradicted (literals_in 14 l.0) m ≡ true → meets p l s ≡ false
  not-met m h e = go (meets p l s) refl
    where
      go : (b : Bool) → meets p l s ≡ b → meets p l s ≡ false
      go false q = q
      go true q =
          let n = length p.predicates in
          let says = literals-out (λ l. holds (literal_row p l) s ≡ true) l.0 n (rows-held p s (literals_in n l.0) q) in
          absurd (contradicted-each (TrueAt p s) (literals_in 14 l.0) m h
          (literals-in (λ l. TrueAt p s (opposite l) → ⊥) l.0 14 (λ k b. (
            λ x t. false-true (sym t.1 ∙ (says k t.0).0 x),
            λ x t. false-true (sym (negated-fails (predicate p k) s ((says k t.0).1 x)) ∙ t.1),
          ))) e)
