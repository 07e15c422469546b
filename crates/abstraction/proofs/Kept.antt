-- Request 1, of a program and a lemma list: which literals a successor has, and when there is none.
use mathlib.Core.Path.{◌≡◌, refl}
use mathlib.Core.Bool.{Bool, true, ◌&&◌}
use mathlib.Core.Logic.{◌⊎◌, inl, inr, ⊎_elim, ◌↔◌}
use mathlib.Core.List.{List, Memᴰ}
use Prim.Native.Nat.{ℕ, ◌<◌}
use lib.ListN.{length}
use Rattle.integers.proofs.Tests.{and-true, or_cases}
use Rattle.grammar.specs.Programs.{Program}
use Rattle.lemmas.specs.Lemmas.{Lemma}
use Rattle.frame.specs.Frame.{untouched}
use Rattle.words.specs.LiteralSets.{Literal, B, NotB, predicate_of}
use Rattle.formula.specs.Formula.{False, And, Then, follows}
use Rattle.formula.proofs.Laws.{literals-are, false-is}
use Rattle.abstraction.specs.Abstraction.{among, shown, successor}
use Rattle.abstraction.proofs.Literals.{among-is}

module _ (p : Program) (ls : List Lemma) (k : ℕ) (node : List Literal) where
  -- the literal is shown, or it is kept: its predicate is untouched and it is a literal of the node
  abbrev pub Follows : Literal → Type 0
  Follows m = (shown p ls k node (Then m) ≡ true) ⊎ ((untouched p k (predicate_of m) ≡ true) × Memᴰ m node)

  abbrev known : Literal → Bool
  known = follows (shown p ls k node) (untouched p k) (λ m. among m node)

  follows_is : (m : Literal) → (known m ≡ true) ↔ Follows m
  follows_is m =
      let u = untouched p k (predicate_of m) in
      let (split, join) = or_cases (shown p ls k node (Then m)) (u && among m node) in
      let (to, back) = among-is m node in (
        λ h. ⊎_elim (λ e. inl e) (λ e. let (a, b) = and-true u (among m node) e in inr (a, to b)) (split h),
        λ w. join (⊎_elim (λ e. inl e) (λ h. inr (rw (h.0, back h.1) refl)) w),
      )

  pub successor-literals : {next : List Literal} → successor p ls k node ≡ And next → (m : Literal)
      → Memᴰ m next ↔ ((predicate_of m < length p.predicates) × Follows m)
  successor-literals e m =
      let (to, back) = literals-are (shown p ls k node) (untouched p k) (λ x. among x node) (length p.predicates) e m in
      let (out, into) = follows_is m in
      (λ d. let (l, h) = to d in (l, out h), λ w. back (w.0, into w.1))

  -- a kept literal and its opposite, shown
  pub opposed-none : (j : ℕ) → j < length p.predicates → untouched p k j ≡ true
      → (Memᴰ (B j) node × (shown p ls k node (Then (NotB j)) ≡ true)) ⊎ (Memᴰ (NotB j) node × (shown p ls k node (Then (B j)) ≡ true)) → successor p ls k node ≡ False
  opposed-none j l u s =
      let (a, b) = clash s in
      (false-is (shown p ls k node) (untouched p k) (λ x. among x node) (length p.predicates)).1 (inr (j, l, a, b))
    where
      clash : (Memᴰ (B j) node × (shown p ls k node (Then (NotB j)) ≡ true)) ⊎ (Memᴰ (NotB j) node × (shown p ls k node (Then (B j)) ≡ true))
          → (known (B j) ≡ true) × (known (NotB j) ≡ true)
      clash (inl w) = ((follows_is (B j)).1 (inr (u, w.0)), (follows_is (NotB j)).1 (inl w.1))
      clash (inr w) = ((follows_is (B j)).1 (inl w.1), (follows_is (NotB j)).1 (inr (u, w.0)))
