-- A lemma that says of an untouched predicate what stands among its own premises is needless: without it formula (3) gives the same everywhere.
use mathlib.Core.Path.{◌≡◌, refl, sym, ap, ◌∙◌}
use mathlib.Core.Bool.{Bool, true, false, cond, ◌&&◌, ◌||◌}
use mathlib.Core.Logic.{◌⊎◌, inl, inr, ⊎_elim, ◌↔◌}
use mathlib.Core.List.{List, [], ◌∷◌, ◌++◌, Memᴰ}
use Prim.Native.Nat.{ℕ}
use native.Mathlib.Omega.{arith}
use lib.ListN.{length}
use Rattle.integers.proofs.Tests.{or_cases, same_test}
use Rattle.words.specs.Words.{payload}
use Rattle.grammar.specs.Programs.{Program}
use Rattle.lemmas.specs.Lemmas.{Goal, CannotHappen, HoldsAfter, FailsAfter, goal_number, Lemma, START}
use Rattle.frame.specs.Frame.{untouched}
use Rattle.words.specs.LiteralSets.{Literal, B, NotB, predicate_of, literals_in}
use Rattle.formula.specs.Formula.{False, Disabled, follows, conjuncts}
use Rattle.search.specs.Search.{explored}
use Rattle.records.specs.Records.{most_nodes}
use Rattle.abstraction.specs.Abstraction.{among, lemma_applies, applies, shown, successor, answer, graph}
use Rattle.abstraction.proofs.Literals.{among-is, all-among-is}
use Rattle.abstraction.proofs.ClaimLaws.{Applied, applied_is}

-- ---- one lemma of a list
or_swap : (a b c : Bool) → (a || (b || c)) ≡ (b || (a || c))
or_swap true true c = refl
or_swap true false c = refl
or_swap false b c = refl

applies_split : (p : Program) (xs ys : List Lemma) (l : Lemma) (k : ℕ) (exp : List Literal) (goal : Goal) (index : ℕ)
    → applies p (xs ++ (l ∷ ys)) k exp goal index ≡ (lemma_applies p k exp goal index l || applies p (xs ++ ys) k exp goal index)
unfolding applies
applies_split p [] ys l k exp goal index = refl
applies_split p (x ∷ xs) ys l k exp goal index =
    ap (λ (b : Bool). lemma_applies p k exp goal index x || b) (applies_split p xs ys l k exp goal index)
    ∙ or_swap (lemma_applies p k exp goal index x) (lemma_applies p k exp goal index l) (applies p (xs ++ ys) k exp goal index)

-- the lemma's goal is this literal
abbrev pub Says : Lemma → Literal → Type 0
Says l m = ((l.goal ≡ HoldsAfter) × (m ≡ B l.index)) ⊎ ((l.goal ≡ FailsAfter) × (m ≡ NotB l.index))

module _ (p : Program) (xs ys : List Lemma) (l : Lemma) (m : Literal) (says : Says l m) (free : untouched p l.source (predicate_of m) ≡ true)
    (own : Memᴰ m (literals_in 14 l.premises.0)) where
  abbrev more : List Lemma
  more = xs ++ (l ∷ ys)

  abbrev fewer : List Lemma
  fewer = xs ++ ys

  goal-says : (goal_number l.goal ≡ 1) ⊎ (goal_number l.goal ≡ 2)
  goal-says = ⊎_elim (λ w. inl (ap goal_number w.0)) (λ w. inr (ap goal_number w.0)) says

  module _ (k : ℕ) (exp : List Literal) where
    applies-more : (goal : Goal) (index : ℕ) → (applies p more k exp goal index ≡ true) ↔ (Applied p k exp goal index l ⊎ (applies p fewer k exp goal index ≡ true))
    applies-more goal index =
        let e = applies_split p xs ys l k exp goal index in
        let (split, join) = or_cases (lemma_applies p k exp goal index l) (applies p fewer k exp goal index) in
        let (to, back) = applied_is p k exp goal index l in
        (λ h. ⊎_elim (λ q. inl (to q)) (λ q. inr q) (split (sym e ∙ h)), λ w. e ∙ join (⊎_elim (λ q. inl (back q)) (λ q. inr q) w))

    -- of other goals nothing changes
    pub others : (goal : Goal) (index : ℕ) → (goal_number goal ≡ 1 → ⊥) → (goal_number goal ≡ 2 → ⊥) → applies p more k exp goal index ≡ applies p fewer k exp goal index
    others goal index one two =
        let (to, back) = applies-more goal index in
        same_test (applies p more k exp goal index) (applies p fewer k exp goal index)
        (λ h. ⊎_elim (λ w. absurd (⊎_elim (λ e. one (sym w.goal-is ∙ e)) (λ e. two (sym w.goal-is ∙ e)) goal-says)) (λ q. q) (to h)) (λ h. back (inr h))

    abbrev U : ℕ → Bool
    U = untouched p k

    abbrev H : Literal → Bool
    H x = among x exp

    -- where the lemma applies, its literal is kept
    is-kept : {goal : Goal} {index : ℕ} → Applied p k exp goal index l → (x : Literal) → m ≡ x → (U (predicate_of x) && H x) ≡ true
    is-kept w x e =
        let u : U (predicate_of m) ≡ true = rw (← w.source_is) free in
        let h : H m ≡ true = (among-is m exp).1 ((all-among-is (literals_in 14 l.premises.0) exp).0 w.premises_in m own) in
        rw (← e, u, h) refl

    -- the literal of a goal and an index is the lemma's own
    own-holds : {index : ℕ} → Applied p k exp HoldsAfter index l → m ≡ B index
    own-holds w = ⊎_elim (λ s. s.1 ∙ ap B w.index_is) (λ s. absurd (let z = sym (ap goal_number s.0) ∙ w.goal-is in omega arith)) says

    own-fails : {index : ℕ} → Applied p k exp FailsAfter index l → m ≡ NotB index
    own-fails w = ⊎_elim (λ s. absurd (let z = sym (ap goal_number s.0) ∙ w.goal-is in omega arith)) (λ s. s.1 ∙ ap NotB w.index_is) says

    known_same : (x : Literal) (goal : Goal) (index : ℕ) → (Applied p k exp goal index l → m ≡ x)
        → (applies p more k exp goal index || (U (predicate_of x) && H x)) ≡ (applies p fewer k exp goal index || (U (predicate_of x) && H x))
    known_same x goal index same =
        let kept = U (predicate_of x) && H x in
        let (to, back) = applies-more goal index in
        let (split, join) = or_cases (applies p more k exp goal index) kept in
        let (split', join') = or_cases (applies p fewer k exp goal index) kept in
        same_test (applies p more k exp goal index || kept) (applies p fewer k exp goal index || kept)
        (λ h. join' (⊎_elim (λ q. ⊎_elim (λ w. inr (is-kept w x (same w))) (λ r. inl r) (to q)) (λ q. inr q) (split h)))
        (λ h. join (⊎_elim (λ q. inl (back (inr q))) (λ q. inr q) (split' h)))

    follows_same : (x : Literal) → follows (shown p more k exp) U H x ≡ follows (shown p fewer k exp) U H x
    follows_same (B j) = known_same (B j) HoldsAfter j own-holds
    follows_same (NotB j) = known_same (NotB j) FailsAfter j own-fails

    pub successor-same : successor p more k exp ≡ successor p fewer k exp
    successor-same =
        let n = length p.predicates in
        ap (λ (b : Bool). cond b False (conjuncts (follows (shown p more k exp) U H) n)) (others CannotHappen 0 (λ e. omega arith) (λ e. omega arith))
        ∙ (λ t. cond (shown p fewer k exp Disabled) False (conjuncts (λ x. follows_same x t) n))

  pub graph_same : graph p more ≡ graph p fewer
  graph_same = λ t. explored (λ w j. answer (successor-same j (literals_in 14 (payload w)) t)) (length p.actions) most_nodes (answer (successor-same START [] t))
