-- What an applying lemma claims is true, and what is kept was true and stays so; so formula (3) gives literals that are true of the state afterwards.
use mathlib.Core.Path.{◌≡◌, refl, sym, ◌∙◌}
use mathlib.Core.Bool.{Bool, true, false, cond, ◌&&◌}
use mathlib.Core.Logic.{⊎_elim}
use mathlib.Core.List.{List, [], ◌∷◌}
use Prim.Native.Nat.{ℕ, zero, suc, ◌≤◌, ◌<◌}
use native.Mathlib.Omega.{arith}
use lib.IntN.{ℤ}
use lib.ListN.{length}
use Rattle.integers.proofs.Tests.{and-true, or_true, false-true}
use Rattle.rows.specs.Rows.{holds}
use Rattle.grammar.specs.Programs.{Program}
use Rattle.grammar.specs.WellFormed.{Each, WellFormed}
use Rattle.runs.specs.Runs.{Inside, new_state, action_of, predicate}
use Rattle.lemmas.specs.Lemmas.{Goal, CannotHappen, HoldsAfter, FailsAfter, Lemma}
use Rattle.lemmas.specs.LemmaGrammar.{LemmaOk}
use Rattle.lemmas.specs.Truth.{happens, Says}
use Rattle.lemmas.proofs.LemmaLaws.{same-goal}
use Rattle.lemmas.proofs.Sound.{accepted-true}
use Rattle.words.specs.LiteralSets.{Literal, B, NotB, predicate_of, literals_in}
use Rattle.frame.specs.Frame.{untouched}
use Rattle.frame.proofs.Frame.{untouched-holds}
use Rattle.formula.specs.Formula.{Monomial, False, And, Then, and, follows, conjunct, conjuncts}
use Rattle.abstraction.specs.Abstraction.{among, lemma_applies, applies, shown, successor}
use Rattle.abstraction.proofs.ClaimLaws.{applied_is}
use Rattle.safety.proofs.Literals.{TrueAt, Right, each_append, among-each, all-among-each, met}

-- a monomial is true at a state: it is not false, and its literals are true there
abbrev pub Describes : Program → List ℤ → Monomial → Type 0
Describes p t False = ⊥
Describes p t (And m) = Each (TrueAt p t) m

-- ---- a conjunction of literals that are known only where they are true
module _ (p : Program) (t : List ℤ) where
  describes-and : (f g : Monomial) → Describes p t f → Describes p t g → Describes p t (and f g)
  describes-and False g h k = h
  describes-and (And ms) False h k = k
  describes-and (And ms) (And ns) h k = each_append (TrueAt p t) ms ns h k

  describes-conjunct : (b c : Bool) (j : ℕ) → j < length p.predicates → Right (predicate p j) t b c → Describes p t (conjunct b c j)
  describes-conjunct true true j l h = false-true (sym (h.1 refl) ∙ h.0 refl)
  describes-conjunct true false j l h = ((l, h.0 refl), tt)
  describes-conjunct false true j l h = ((l, h.1 refl), tt)
  describes-conjunct false false j l h = tt

  module _ (known : Literal → Bool) (sound : (j : ℕ) → Right (predicate p j) t (known (B j)) (known (NotB j))) where
    describes-conjuncts : (n : ℕ) → n ≤ length p.predicates → Describes p t (conjuncts known n)
    unfolding conjuncts
    describes-conjuncts zero h = tt
    describes-conjuncts (suc n) h =
        describes-and (conjuncts known n) (conjunct (known (B n)) (known (NotB n)) n) (describes-conjuncts n (omega arith))
        (describes-conjunct (known (B n)) (known (NotB n)) n h (sound n))

  describes-unless : (b : Bool) (f : Monomial) → (b ≡ true → ⊥) → Describes p t f → Describes p t (cond b False f)
  describes-unless true f h k = h refl
  describes-unless false f h k = k

-- ---- at a state in the ranges where the source may happen, and the literals are true
module _ (p : Program) (ok : WellFormed p) (s : List ℤ) (inside : Inside p s) (source : ℕ) (may : happens p source s ≡ true) (exp : List Literal) (true-there : Each (TrueAt p s) exp) where
  abbrev after : List ℤ
  after = new_state (action_of p source) s

  lemma-claims : (l : Lemma) → LemmaOk p l → (goal : Goal) (index : ℕ) → lemma_applies p source exp goal index l ≡ true → Says p goal index after
  lemma-claims l good goal index e =
      let w = (applied_is p source exp goal index l).0 e in
      let same = w.source_is in
      rw (same, same-goal l.goal goal w.goal-is, w.index_is) at
      (accepted-true p ok l good w.accepts s inside
      (met p s l.premises ok.predicates.few (all-among-each (TrueAt p s) (literals_in 14 l.premises.0) exp true-there w.premises_in))
      (rw same may))

  -- what an applying lemma of the list claims
  pub claims : (ls : List Lemma) → Each (LemmaOk p) ls → (goal : Goal) (index : ℕ) → applies p ls source exp goal index ≡ true → Says p goal index after
  unfolding applies
  claims [] good goal index e = false-true e
  claims (l ∷ ls) good goal index e =
      ⊎_elim (lemma-claims l good.0 goal index) (claims ls good.1 goal index) (or_true (lemma_applies p source exp goal index l) (applies p ls source exp goal index) e)

  module _ (ls : List Lemma) (good : Each (LemmaOk p) ls) where
    -- a literal that is shown or kept is true of the state afterwards
    abbrev known : Literal → Bool
    known = follows (shown p ls source exp) (untouched p source) (λ m. among m exp)

    -- the literal is kept, so it was true before, and its predicate is untouched
    kept : (m : Literal) → (untouched p source (predicate_of m) && among m exp) ≡ true
        → (holds (predicate p (predicate_of m)) after ≡ holds (predicate p (predicate_of m)) s) × TrueAt p s m
    kept m e =
        let (u, h) = and-true (untouched p source (predicate_of m)) (among m exp) e in
        (untouched-holds p source (predicate_of m) s u, among-each (TrueAt p s) m exp true-there h)

    known-right : (j : ℕ) → Right (predicate p j) after (known (B j)) (known (NotB j))
    known-right j = (
      λ e. ⊎_elim (claims ls good HoldsAfter j) (λ q. let (same, t) = kept (B j) q in same ∙ t.1)
          (or_true (shown p ls source exp (Then (B j))) (untouched p source j && among (B j) exp) e),
      λ e. ⊎_elim (claims ls good FailsAfter j) (λ q. let (same, t) = kept (NotB j) q in same ∙ t.1)
          (or_true (shown p ls source exp (Then (NotB j))) (untouched p source j && among (NotB j) exp) e),
    )

    -- and so the successor is true of it
    pub successor-true : Describes p after (successor p ls source exp)
    successor-true =
        describes-unless p after (applies p ls source exp CannotHappen 0) (conjuncts known (length p.predicates)) (claims ls good CannotHappen 0)
        (describes-conjuncts p after known known-right (length p.predicates) (omega arith))
