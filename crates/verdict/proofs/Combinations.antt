-- The forbidden combinations at a node:
--     contradicted-is                  the test on sets says whether some literal contradicts a combination
--     forbids-are                      the first finding is the first one that none contradicts, or what the rest gives
use mathlib.Core.Path.{◌≡◌, refl, sym, ap, ◌∙◌}
use mathlib.Core.Bool.{Bool, true, false, cond, not}
use Rattle.std.specs.Prelude.{Option, None, Some}
use Rattle.std.specs.List.{list_any, position_from}
use Rattle.std.proofs.lemmas.Bool.{or_left, or_right}
use Rattle.std.proofs.lemmas.List.Folds.{list_any-append}
use Rattle.std.proofs.lemmas.Iterator.Adapters.{position_from-zero}
use mathlib.Core.Logic.{◌⊎◌, inl, inr, ⊎_elim, ◌↔◌}
use mathlib.Core.List.{List, [], ◌∷◌, ◌++◌}
use Prim.Native.Nat.{ℕ, zero, suc, ◌+◌, ◌^◌, ◌<◌}
use native.Mathlib.Omega.{arith}
use native.Mathlib.Numerals.{add-one}
use native.Mathlib.Nat.{eq-or-lt_of_le, le_of_suc-le-suc}
use borrow.Author.Tests.{eqb-true, eq-eqb}
use Rattle.integers.proofs.Tests.{or_true, same_test}
use Rattle.words.specs.declared.Literals.{Literals}
use Rattle.grammar.specs.WellFormed.{Each, LiteralsOk}
use Rattle.sets.specs.Sets.{Member, clashes}
use Rattle.sets.proofs.Laws.{clashes-is}
use Rattle.gather.proofs.Shown.{never}
use Rattle.words.specs.LiteralSets.{Literal, B, NotB, literal_if, literals_in, has}
use Rattle.abstraction.specs.Abstraction.{same_literal, among}
use Rattle.verdict.specs.Verdicts.{opposite, contradicted, forbids}
use Rattle.verdict.specs.declared.Finding.{Finding}
use Rattle.verdict.specs.declared.Finding.TheVariants.{Forbid}
use Rattle.verdict.specs.Working.{found_of, first_free}

-- ---- some literal of a set passes a test
among-any : (l : Literal) (ms : List Literal) → among l ms ≡ list_any (same_literal l) ms
unfolding among
among-any l [] = refl
among-any l (m ∷ ms) = rw (among-any l ms)

contradicted-any : (ls m : List Literal) → contradicted ls m ≡ list_any (λ l. among (opposite l) m) ls
unfolding contradicted
contradicted-any [] m = refl
contradicted-any (l ∷ ls) m = rw (contradicted-any ls m)

module _ (f : Literal → Bool) where
  any-append : (xs ys : List Literal) → (list_any f (xs ++ ys) ≡ true) ↔ ((list_any f xs ≡ true) ⊎ (list_any f ys ≡ true))
  any-append xs ys = rw (list_any-append f xs ys) (or_true (list_any f xs) (list_any f ys), λ s. ⊎_elim (or_left _ _) (or_right _ _) s)

  any-if : (j set : ℕ) (l : Literal) → (list_any f (literal_if (has j set) l) ≡ true) ↔ (Member j set × (f l ≡ true))
  any-if j set l = (go (has j set) refl, λ w. rw (eq-eqb _ 1 w.0, w.1) refl)
    where
      go : (b : Bool) → has j set ≡ b → list_any f (literal_if b l) ≡ true → Member j set × (f l ≡ true)
      go true e h = (eqb-true _ 1 e, ⊎_elim (λ q. q) (λ q. never q) (or_true (f l) false h))
      go false e h = never h

  -- of the predicates below n
  Passes : ℕ → ℕ → Type 0
  Passes n set = (p : ℕ) × (p < n) × ((Member p set × (f (B p) ≡ true)) ⊎ (Member (14 + p) set × (f (NotB p) ≡ true)))

  any_in : (n set : ℕ) → (list_any f (literals_in n set) ≡ true) ↔ Passes n set
  unfolding literals_in Passes
  any_in zero set = (λ h. never h, λ w. absurd (omega arith))
  any_in (suc n) set =
      let (to, back) = any_in n set in
      let (left, right) = any-append (literals_in n set) (literal_if (has n set) (B n) ++ literal_if (has (14 + n) set) (NotB n)) in
      let (into, out) = any-append (literal_if (has n set) (B n)) (literal_if (has (14 + n) set) (NotB n)) in
      let (yes-to, yes-back) = any-if n set (B n) in
      let (no-to, no-back) = any-if (14 + n) set (NotB n) in (
        λ h. ⊎_elim (λ e. let (p, l, w) = to e in (p, omega arith, w))
            (λ e. (n, omega arith, ⊎_elim (λ q. inl (yes-to q)) (λ q. inr (no-to q)) (into e))) (left h),
        λ w. let (p, l, s) = w in
            right (⊎_elim (λ e. inr (out (⊎_elim (λ q. inl (yes-back (rw e at q))) (λ q. inr (no-back (rw e at q))) s))) (λ lt. inl (back (p, lt, s))) (eq-or-lt_of_le (le_of_suc-le-suc l))),
      )

-- ---- a literal of a set, and the opposite of one
among-true : (j set : ℕ) → (among (B j) (literals_in 14 set) ≡ true) ↔ ((j < 14) × Member j set)
unfolding Passes
among-true j set =
    let (to, back) = any_in (same_literal (B j)) 14 set in
    rw (among-any (B j) (literals_in 14 set)) (
      λ h. let (p, l, s) = to h in ⊎_elim (λ q. let e = eqb-true j p q.1 in (omega arith, rw e q.0)) (λ q. never q.1) s,
      λ w. back (j, w.0, inl (w.1, eq-eqb j j refl)),
    )

among-false : (j set : ℕ) → (among (NotB j) (literals_in 14 set) ≡ true) ↔ ((j < 14) × Member (14 + j) set)
unfolding Passes
among-false j set =
    let (to, back) = any_in (same_literal (NotB j)) 14 set in
    rw (among-any (NotB j) (literals_in 14 set)) (
      λ h. let (p, l, s) = to h in ⊎_elim (λ q. never q.1) (λ q. let e = eqb-true j p q.1 in (omega arith, rw e q.0)) s,
      λ w. back (j, w.0, inr (w.1, eq-eqb j j refl)),
    )

pub contradicted-is : (c set : ℕ) → c < 2 ^ 28 → set < 2 ^ 28 → contradicted (literals_in 14 c) (literals_in 14 set) ≡ clashes c set
unfolding Passes
contradicted-is c set hc hs =
    let m = literals_in 14 set in
    let (to, back) = any_in (λ l. among (opposite l) m) 14 c in
    let (there, here) = clashes-is c set hc hs in
    contradicted-any (literals_in 14 c) m
    ∙ same_test _ _
    (λ h. let (p, l, s) = to h in
    here (p, l, ⊎_elim (λ q. inl (q.0, ((among-false p set).0 q.1).1)) (λ q. inr (q.0, ((among-true p set).0 q.1).1)) s))
    (λ h. let (p, l, s) = there h in
    back (p, l, ⊎_elim (λ q. inl (q.0, (among-false p set).1 (l, q.1))) (λ q. inr (q.0, (among-true p set).1 (l, q.1))) s))

-- ---- the findings that it gives
-- what is found first: the combination, or what the rest gives
abbrev pub forbid_or : ℕ → Option ℕ → Option Finding → Option Finding
forbid_or k None other = other
forbid_or k (Some b) other = Some (Forbid k b)

module _ (preds set : ℕ) (hs : set < 2 ^ 28) (k : ℕ) (rest : List Finding) where
  forbids-first : (b : ℕ) (cs : List Literals) → Each (LiteralsOk preds) cs
      → found_of (forbids k (literals_in 14 set) b cs ++ rest) ≡ forbid_or k (position_from (λ c. not (clashes c.0 set)) b cs) (found_of rest)
  unfolding forbids
  forbids-first b [] ok = refl
  forbids-first b (c ∷ cs) ok =
      rw (contradicted-is c.0 set ok.0.payload hs) (go (clashes c.0 set) (forbids-first (suc b) cs ok.1))
    where
      go : (t : Bool)
          → found_of (forbids k (literals_in 14 set) (suc b) cs ++ rest) ≡ forbid_or k (position_from (λ c. not (clashes c.0 set)) (suc b) cs) (found_of rest)
          → found_of ((cond t [] (Forbid k b ∷ []) ++ forbids k (literals_in 14 set) (suc b) cs) ++ rest)
          ≡ forbid_or k (cond (not t) (Some b) (position_from (λ c. not (clashes c.0 set)) (b + 1) cs)) (found_of rest)
      go true ih = rw (add-one b) ih
      go false ih = refl

  pub forbids-are : (cs : List Literals) → Each (LiteralsOk preds) cs → found_of (forbids k (literals_in 14 set) 0 cs ++ rest) ≡ forbid_or k (first_free set cs) (found_of rest)
  forbids-are cs ok = forbids-first 0 cs ok ∙ ap (λ (o : Option ℕ). forbid_or k o (found_of rest)) (sym (position_from-zero (λ c. not (clashes c.0 set)) cs))
