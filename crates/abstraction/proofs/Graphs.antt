-- Formula (3) over a lemma list is what the gathered word gives with the kept literals, so the tables give the graph.
use mathlib.Core.Path.{◌≡◌, refl, sym, ap, ◌∙◌}
use mathlib.Core.Bool.{Bool, true, false, cond, not, ◌&&◌, ◌||◌}
use mathlib.Core.Logic.{inl, inr, ⊎_elim, ◌↔◌}
use mathlib.Core.List.{List, [], ◌++◌, map, append-nil}
use Prim.Native.Nat.{ℕ, zero, suc, ◌+◌, ◌-◌, ◌%◌, ◌^◌, ◌<◌, ◌≤◌}
use native.Mathlib.Omega.{arith}
use lib.Bits.{and_zero_l}
use lib.ListN.{length, get_or}
use borrow.Author.Tests.{eqb-true, eq-eqb, ltb-true}
use Rattle.integers.proofs.Tests.{and-true as both_true, or_cases, same_test}
use Rattle.words.specs.Words.{payload}
use Rattle.grammar.specs.Programs.{Program}
use Rattle.grammar.specs.WellFormed.{Each, WellFormed}
use Rattle.lemmas.specs.Lemmas.{Goal, CannotHappen, HoldsAfter, FailsAfter, Lemma, START}
use Rattle.lemmas.specs.LemmaGrammar.{goal_allowed, LemmaOk}
use Rattle.frame.specs.Frame.{untouched}
use Rattle.frame.specs.Masks.{mask_to, masks_of}
use Rattle.frame.proofs.MaskTable.{masks-at}
use Rattle.sets.specs.Sets.{bit_of, Member, apart}
use Rattle.sets.proofs.Bits.{bit_mod}
use Rattle.sets.proofs.Laws.{mixed_is, Paired, pairs-are}
use Rattle.gather.specs.Gathering.{cannot, holds, fails, entry_of, gather_from, gathered, known, blocked, successor_of}
use Rattle.std.specs.Prelude.{Option, None, Some}
use Rattle.gather.specs.declared.Entry.{Entry}
use Rattle.gather.proofs.Shown.{never, known_is}
use Rattle.gather.proofs.Successors.{successor-set}
use Rattle.words.specs.LiteralSets.{Literal, B, NotB, predicate_of, literal_if, literals_in, set_of, has}
use Rattle.formula.specs.Formula.{Monomial, False, And, Disabled, Then, and, follows, conjunct, conjuncts}
use Rattle.search.specs.Search.{explored}
use Rattle.search.proofs.Count.{lt_or_le}
use Rattle.records.specs.Records.{most_nodes}
use Rattle.graph.specs.Graph.{answer_of, start_of, graph_of}
use Rattle.abstraction.specs.Abstraction.{among, applies, shown, successor, start, answer, graph}
use Rattle.abstraction.specs.Claims.{claims}
use Rattle.abstraction.proofs.Literals.{place_in, among_in, set-literals, literals_mod}
use Rattle.abstraction.proofs.ClaimLaws.{applied-allowed, applies-is}

-- ---- formula (3), where what is shown are the digits of a word
abbrev pub monomial_of : Option ℕ → Monomial
monomial_of (Some s) = And (literals_in 14 s)
monomial_of None = False

and-false : (m : Monomial) → and m False ≡ False
and-false False = refl
and-false (And ms) = refl

and-true : (m : Monomial) → and m (And []) ≡ m
and-true False = refl
and-true (And ms) = ap And (append-nil ms)

conjunct_as : (x y : Bool) (j : ℕ) → (x ≡ true → y ≡ true → ⊥) → conjunct x y j ≡ And (literal_if x (B j) ++ literal_if y (NotB j))
conjunct_as true true j h = absurd (h refl refl)
conjunct_as true false j h = refl
conjunct_as false true j h = refl
conjunct_as false false j h = refl

-- the same tests give the same conjunction, and predicates of which nothing is known add nothing
conjuncts_alike : (f g : Literal → Bool) (n : ℕ) → ((j : ℕ) → j < n → (f (B j) ≡ g (B j)) × (f (NotB j) ≡ g (NotB j))) → conjuncts f n ≡ conjuncts g n
unfolding conjuncts
conjuncts_alike f g zero h = refl
conjuncts_alike f g (suc n) h = let (a, b) = h n (omega arith) in rw (a, b, conjuncts_alike f g n (λ j l. h j (omega arith)))

conjuncts-more : (f : Literal → Bool) (n d : ℕ) → ((j : ℕ) → n ≤ j → j < d + n → (f (B j) ≡ false) × (f (NotB j) ≡ false)) → conjuncts f (d + n) ≡ conjuncts f n
unfolding conjuncts
conjuncts-more f n zero none = let e : 0 + n ≡ n = omega arith in rw e
conjuncts-more f n (suc d) none =
    let e : suc d + n ≡ suc (d + n) = omega arith in
    let (a, b) = none (d + n) (omega arith) (omega arith) in
    rw (e, a, b) (and-true (conjuncts f (d + n)) ∙ conjuncts-more f n d (λ j l h. none j l (omega arith)))

module _ (g : ℕ) where
  -- a literal's digit
  abbrev digit : Literal → Bool
  digit m = has (place_in m) g

  clash : (n p : ℕ) → n ≤ 14 → p < n → Member p g → Member (14 + p) g → conjuncts digit n ≡ False
  unfolding conjuncts
  clash zero p h l m q = absurd (omega arith)
  clash (suc n) p h l m q =
      ⊎_elim (λ lt. rw (clash n p (omega arith) lt m q) refl)
      (λ le. let e : p ≡ n = omega arith in rw (eq-eqb (bit_of n g) 1 (rw e at m), eq-eqb (bit_of (14 + n) g) 1 (rw e at q)) (and-false (conjuncts digit n))) (lt_or_le p n)

  no-clash : (n : ℕ) → n ≤ 14 → ((p : ℕ) → p < n → Member p g → Member (14 + p) g → ⊥) → conjuncts digit n ≡ And (literals_in n g)
  unfolding conjuncts literals_in
  no-clash zero h f = refl
  no-clash (suc n) h f =
      let c = conjunct_as (has n g) (has (14 + n) g) n (λ x y. f n (omega arith) (eqb-true (bit_of n g) 1 x) (eqb-true (bit_of (14 + n) g) 1 y)) in
      rw (no-clash n (omega arith) (λ p l. f p (omega arith)), c) refl

  formula-is : cond (blocked g) False (conjuncts digit 14) ≡ monomial_of (successor_of g)
  formula-is = go (blocked g) (apart (g % 2 ^ 28)) refl
    where
      go : (b d : Bool) → apart (g % 2 ^ 28) ≡ d → cond b False (conjuncts digit 14) ≡ monomial_of (cond (b || not d) None (Some (g % 2 ^ 28)))
      go true d e = refl
      go false true e =
          no-clash 14 (omega arith) (λ p l m q. never (sym ((mixed_is (g % 2 ^ 28)).1 (p, l, bit_mod 28 p g (omega arith) ∙ m, bit_mod 28 (14 + p) g (omega arith) ∙ q)) ∙ e))
          ∙ ap And (sym (literals_mod 14 g (omega arith)))
      go false false e =
          let (p, l, m, q) = (mixed_is (g % 2 ^ 28)).0 e in
          clash 14 p (omega arith) l (sym (bit_mod 28 p g (omega arith)) ∙ m) (sym (bit_mod 28 (14 + p) g (omega arith)) ∙ q)

-- ---- the successor over a lemma list
or_false : (b : Bool) → (b || false) ≡ b
or_false true = refl
or_false false = refl

not_so : (b : Bool) → (b ≡ true → ⊥) → b ≡ false
not_so true h = absurd (h refl)
not_so false h = refl

module _ (p : Program) (ok : WellFormed p) (ls : List Lemma) (good : Each (LemmaOk p) ls) where
  abbrev pub tables : List Entry
  tables = map entry_of (claims p ls)

  module _ (source set : ℕ) where
    abbrev mask : ℕ
    mask = get_or (masks_of p) source 0

    -- what is shown, and with it what is kept
    abbrev word : ℕ
    word = gathered source set tables

    abbrev full : ℕ
    full = known mask source set tables

    abbrev pub here : Option ℕ
    here = successor_of full

    abbrev preds : ℕ
    preds = length p.predicates

    few : preds ≤ 14
    few = ok.predicates.few

    -- ---- the mask's digits
    masked : (q : ℕ) → (has q mask ≡ true) ↔ Paired (λ j. j) (λ j. 14 + j) (untouched p source) preds q
    masked q =
        let (to, back) = pairs-are (λ j. j) (λ j. 14 + j) (untouched p source) preds q in
        rw (masks-at p ok source) (λ h. to (eqb-true (bit_of q (mask_to (untouched p source) preds)) 1 h), λ w. eq-eqb (bit_of q (mask_to (untouched p source) preds)) 1 (back w))

    -- a place past the literals of the program's predicates has none
    unmasked : (q : ℕ) → ((j : ℕ) → j < preds → (q ≡ j → ⊥) × (q ≡ 14 + j → ⊥)) → has q mask ≡ false
    unmasked q h = not_so (has q mask) (λ e. let (j, l, t, s) = (masked q).0 e in ⊎_elim (h j l).0 (h j l).1 s)

    mask_at : (m : Literal) → predicate_of m < preds → has (place_in m) mask ≡ untouched p source (predicate_of m)
    mask_at (B i) h =
        same_test (has i mask) (untouched p source i)
        (λ e. let (j, l, t, s) = (masked i).0 e in ⊎_elim (λ q. rw q t) (λ q. absurd (omega (arith, few, h))) s) (λ t. (masked i).1 (i, h, t, inl refl))
    mask_at (NotB i) h =
        same_test (has (14 + i) mask) (untouched p source i)
        (λ e. let (j, l, t, s) = (masked (14 + i)).0 e in ⊎_elim (λ q. absurd (omega (arith, few, l))) (λ q. let same : i ≡ j = omega arith in rw same t) s)
        (λ t. (masked (14 + i)).1 (i, h, t, inr refl))

    mask-past : (m : Literal) → preds ≤ predicate_of m → predicate_of m < 14 → has (place_in m) mask ≡ false
    mask-past (B i) le lt = unmasked i (λ j l. (λ e. omega arith, λ e. omega arith))
    mask-past (NotB i) le lt = unmasked (14 + i) (λ j l. (λ e. omega (arith, few), λ e. omega arith))

    -- ---- the word's
    shown-at : (m : Literal) → predicate_of m < 14 → shown p ls source (literals_in 14 set) (Then m) ≡ has (place_in m) word
    shown-at (B j) h = sym (applies-is p ok ls good source set HoldsAfter j (holds h))
    shown-at (NotB j) h = sym (applies-is p ok ls good source set FailsAfter j (fails h))

    -- nothing is shown of a predicate that the program has not
    unknown : (goal : Goal) (j : ℕ) → (goal_allowed p source goal j ≡ true → j < preds) → preds ≤ j → applies p ls source (literals_in 14 set) goal j ≡ false
    unknown goal j known le = not_so (applies p ls source (literals_in 14 set) goal j) (λ h. let lt = known (applied-allowed p source set goal j ls good h) in omega arith)

    shown-past : (m : Literal) → preds ≤ predicate_of m → shown p ls source (literals_in 14 set) (Then m) ≡ false
    shown-past (B j) le = unknown HoldsAfter j (ltb-true j preds) le
    shown-past (NotB j) le = unknown FailsAfter j (ltb-true j preds) le

    -- ---- both: a literal's digit says that it follows
    full_at : (q : ℕ) → q < 64 → has q full ≡ (has q word || (has q mask && has q set))
    full_at q l =
        let (to, back) = known_is mask source set q tables l in
        let (split, join) = or_cases (has q word) (has q mask && has q set) in
        same_test (has q full) (has q word || (has q mask && has q set))
        (λ h. join (⊎_elim (λ m. inl (eq-eqb (bit_of q word) 1 m)) (λ w. inr (rw (eq-eqb (bit_of q mask) 1 w.1, eq-eqb (bit_of q set) 1 w.0) refl)) (to (eqb-true (bit_of q full) 1 h))))
        (λ h. eq-eqb (bit_of q full) 1 (back (⊎_elim (λ e. inl (eqb-true (bit_of q word) 1 e))
        (λ e. let (a, b) = both_true (has q mask) (has q set) e in inr (eqb-true (bit_of q set) 1 b, eqb-true (bit_of q mask) 1 a)) (split h))))

    -- past the literals nothing is kept
    pub past-at : (q : ℕ) → 28 ≤ q → q < 64 → has q full ≡ has q word
    past-at q h l = full_at q l ∙ rw (unmasked q (λ j b. (λ e. omega (arith, few), λ e. omega (arith, few)))) (or_false (has q word))

    place-few : (m : Literal) → predicate_of m < 14 → place_in m < 64
    place-few (B j) h = omega arith
    place-few (NotB j) h = omega arith

    abbrev knows : Literal → Bool
    knows = follows (shown p ls source (literals_in 14 set)) (untouched p source) (λ m. among m (literals_in 14 set))

    known_at : (m : Literal) → predicate_of m < preds → knows m ≡ digit full m
    known_at m h =
        let lt : predicate_of m < 14 = omega (arith, few) in
        rw (shown-at m lt, ← mask_at m h, among_in set m lt) (sym (full_at (place_in m) (place-few m lt)))

    known_past : (m : Literal) → preds ≤ predicate_of m → predicate_of m < 14 → digit full m ≡ false
    known_past m le lt = full_at (place_in m) (place-few m lt) ∙ rw (← shown-at m lt, shown-past m le, mask-past m le lt) refl

    blocked-at : shown p ls source (literals_in 14 set) Disabled ≡ blocked full
    blocked-at =
        sym (applies-is p ok ls good source set CannotHappen 0 cannot)
        ∙ sym (past-at 44 (omega arith) (omega arith))

    pub successor-is : successor p ls source (literals_in 14 set) ≡ monomial_of here
    successor-is =
        let all : (14 - preds) + preds ≡ 14 = omega (arith, few) in
        ap (λ (b : Bool). cond b False (conjuncts knows preds)) blocked-at
        ∙ ap (cond (blocked full) False)
        (conjuncts_alike knows (digit full) preds (λ j l. (known_at (B j) l, known_at (NotB j) l))
        ∙ sym (conjuncts-more (digit full) preds (14 - preds) (λ j le lt. (known_past (B j) le (omega arith), known_past (NotB j) le (omega arith)))) ∙ ap (conjuncts (digit full)) all)
        ∙ formula-is full

    pub answer-is : answer_of here ≡ answer (successor p ls source (literals_in 14 set))
    answer-is = go here refl ∙ sym (ap answer successor-is)
      where
        go : (s : Option ℕ) → here ≡ s → answer_of s ≡ answer (monomial_of s)
        go (Some s) e = let l = (successor-set full s e).0 in let z : set_of (literals_in 14 s) ≡ s = set-literals s ∙ omega arith in rw z refl
        go None e = refl

  starts : start_of tables ≡ answer (start p ls)
  unfolding literals_in
  starts = ap (λ (g : ℕ). answer_of (successor_of (gather_from START 0 g tables))) (sym (and_zero_l (get_or (masks_of p) START 0))) ∙ answer-is START 0

-- the tables of the accepted lemmas, with the masks of what each action keeps, give the graph of the list
pub same_graph : (p : Program) → WellFormed p → (ls : List Lemma) → Each (LemmaOk p) ls → graph_of (map entry_of (claims p ls)) (masks_of p) (length p.actions) ≡ graph p ls
same_graph p ok ls good = λ t. explored (λ w j. answer-is p ok ls good j (payload w) t) (length p.actions) most_nodes (starts p ok ls good t)
