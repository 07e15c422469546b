-- A lemma and its words: reading the words of well-formed lemmas gives them, and an accepted list is the words of what was read.
use mathlib.Core.Path.{◌≡◌, refl, sym, ap, ◌∙◌, subst}
use mathlib.Core.Bool.{Bool, true, false, ◌&&◌}
use mathlib.Core.Logic.{⊎_elim}
use mathlib.Core.List.{List, [], ◌∷◌, ◌++◌, append-nil}
use Prim.Native.Nat.{ℕ, zero, suc, ◌+◌, ◌*◌, ◌^◌, ◌≤◌, ◌<◌, ◌/◌}
use native.Mathlib.Omega.{arith}
use lib.Dec.{eqb, ltb, leb}
use lib.ListN.{length, get_or}
use borrow.Author.Tests.{eqb-true, ltb-true, leb-true, le-leb}
use Rattle.integers.proofs.Tests.{and-true, or_true, false-true}
use Rattle.words.specs.Words.{bits, kind_of, payload, word, LEMMA, SETS, MULT, TERM}
use Rattle.words.proofs.Laws.{kind_word, payload-word, word_split}
use Rattle.grammar.specs.Reading.{Read, got, refused, one, always, begins, times, many}
use Rattle.grammar.specs.Programs.{Assignment, Action, Program}
use Rattle.grammar.specs.Grammar.{nothing}
use Rattle.grammar.specs.Encoding.{concat}
use Rattle.grammar.specs.WellFormed.{Each, Few, Rising, ActionOk, WellFormed, RowOk}
use Rattle.grammar.proofs.ReadingLaws.{Codec, Taken, retaken, one-taken, bound, one_out, one_in, not-got, times-codec, many-out, many-into}
use Rattle.programs.proofs.Places.{none_action}
use Rattle.runs.specs.Runs.{action_of}
use Rattle.lemmas.specs.Lemmas.{Goal, CannotHappen, HoldsAfter, FailsAfter, NotBelow, NotAbove, goal_number, goal_of, Lemma, START, rows_of}
use Rattle.lemmas.specs.LemmaGrammar.{sets_variable, source_allowed, goal_allowed, head_allowed, premises_allowed, multiplier, lemma_of, lemma, list, in_lemmas, read_lemmas, encode_multiplier, encode_lemma, LemmaOk}

-- ---- MULT
abbrev pub mult_allowed : ℕ → Bool
mult_allowed w = leb (payload w) 65535

pub mult_codec : Codec multiplier encode_multiplier (λ m. m ≤ 65535)
mult_codec =
    record {
      out = λ ws i a vs j e. bound (one MULT always always mult_allowed ws i) _ e (λ w us k e₁ h.
          let o = one_out MULT always always mult_allowed ws i w us k e₁ in
          retaken (one-taken encode_multiplier (payload w) o (ap (λ (u : ℕ). u ∷ []) (word_split w o.kind_is)) (leb-true (payload w) 65535 o.allowed_is)) h);
      into = λ a vs i p h.
          let small : a < 2 ^ 28 = omega arith in
          let same = payload-word MULT a small in
          (suc i, rw (one_in MULT always always mult_allowed (word MULT a) vs i (kind_word MULT a small) refl refl (rw same (le-leb a 65535 p)), same) refl);
      head = λ a vs p h. rw (kind_word MULT a (omega arith)) refl;
    }

-- ---- goals and their numbers
goal_again : (g : Goal) → goal_of (goal_number g) ≡ g
goal_again CannotHappen = refl
goal_again HoldsAfter = refl
goal_again FailsAfter = refl
goal_again NotBelow = refl
goal_again NotAbove = refl

number_again : (n : ℕ) → n ≤ 4 → goal_number (goal_of n) ≡ n
number_again zero h = refl
number_again (suc zero) h = refl
number_again (suc (suc zero)) h = refl
number_again (suc (suc (suc zero))) h = refl
number_again (suc (suc (suc (suc n)))) h = omega arith

pub same-goal : (g h : Goal) → goal_number g ≡ goal_number h → g ≡ h
same-goal g h e = sym (goal_again g) ∙ ap goal_of e ∙ goal_again h

goal-few : (g : Goal) → goal_number g ≤ 4
goal-few CannotHappen = omega arith
goal-few HoldsAfter = omega arith
goal-few FailsAfter = omega arith
goal-few NotBelow = omega arith
goal-few NotAbove = omega arith

-- the goal of a first word that is allowed
pub head_goal : (p : Program) (w : ℕ) → head_allowed p w ≡ true → goal_number (goal_of (bits 19 16 w)) ≡ bits 19 16 w
head_goal p w e =
    let n = bits 19 16 w in
    let allowed = goal_allowed p (bits 27 20 w) (goal_of n) (bits 7 0 w) in
    let (front, back) = and-true (eqb (bits 15 8 w) 0 && source_allowed p (bits 27 20 w)) (leb n 4 && allowed) e in
    number_again n (leb-true n 4 (and-true (leb n 4) allowed back).0)

-- ---- the numbers of a well-formed lemma fit their fields
pub sets-known : (vars v : ℕ) (ss : List Assignment) (i : ℕ) → Rising vars v ss → sets_variable ss i ≡ true → i < vars
unfolding sets_variable
sets-known vars v [] i r e = false-true e
sets-known vars v (s ∷ ss) i r e =
    ⊎_elim (λ q. rw (← eqb-true s.variable i q) r.0.below) (sets-known vars (suc s.variable) ss i r.1) (or_true (eqb s.variable i) (sets_variable ss i) e)

pub action-rising : (vars : ℕ) (xs : List Action) (k : ℕ) → Each (ActionOk vars) xs → Rising vars 0 (get_or xs k none_action).sets
action-rising vars [] k p = tt
action-rising vars (x ∷ xs) zero p = p.0.rising
action-rising vars (x ∷ xs) (suc k) p = action-rising vars xs k p.1

pub action-guards : (vars : ℕ) (xs : List Action) (k : ℕ) → Each (ActionOk vars) xs → Few 8 (RowOk vars) (get_or xs k none_action).guards
action-guards vars [] k p = record { few = omega arith; each = tt }
action-guards vars (x ∷ xs) zero p = p.0.guards
action-guards vars (x ∷ xs) (suc k) p = action-guards vars xs k p.1

module _ (p : Program) (ok : WellFormed p) where
  source-lt : (s : ℕ) → source_allowed p s ≡ true → s < 256
  source-lt s e = ⊎_elim (λ q. omega (arith, eqb-true s START q)) (λ q. omega (arith, ltb-true s (length p.actions) q, ok.actions.few)) (or_true (eqb s START) (ltb s (length p.actions)) e)

  set-lt : (s i : ℕ) → sets_variable (action_of p s).sets i ≡ true → i < 256
  set-lt s i e = omega (arith, sets-known (length p.ranges) 0 (action_of p s).sets i (action-rising (length p.ranges) p.actions s ok.actions.each) e, ok.ranges.few)

  goal-lt : (s : ℕ) (g : Goal) (i : ℕ) → goal_allowed p s g i ≡ true → i < 256
  goal-lt s CannotHappen i e = omega (arith, eqb-true i 0 e)
  goal-lt s HoldsAfter i e = omega (arith, ltb-true i (length p.predicates) e, ok.predicates.few)
  goal-lt s FailsAfter i e = omega (arith, ltb-true i (length p.predicates) e, ok.predicates.few)
  goal-lt s NotBelow i e = set-lt s i e
  goal-lt s NotAbove i e = set-lt s i e

  -- ---- a lemma
  abbrev row_count : ℕ → ℕ → ℕ
  row_count w s = length (rows_of p (lemma_of w s []))

  abbrev premised : ℕ → ℕ → Bool
  premised w s = premises_allowed p (bits 27 20 w) (payload s)

  head-word : (w : ℕ) → kind_of w ≡ LEMMA → bits 15 8 w ≡ 0 → w ≡ word LEMMA (bits 27 20 w * 2 ^ 20 + bits 19 16 w * 2 ^ 16 + bits 7 0 w)
  head-word w k z =
      let a : w ≡ w / 2 ^ 16 * 2 ^ 16 + bits 15 8 w * 2 ^ 8 + bits 7 0 w = omega arith in
      let b : w / 2 ^ 16 ≡ w / 2 ^ 20 * 2 ^ 4 + bits 19 16 w = omega arith in
      let c : w / 2 ^ 20 ≡ w / 2 ^ 28 * 2 ^ 8 + bits 27 20 w = omega arith in
      omega arith

  lemma-out : (room : Bool) (ws : List ℕ) (i : ℕ) (l : Lemma) (vs : List ℕ) (j : ℕ) → lemma p room ws i ≡ got l vs j → Taken encode_lemma (LemmaOk p) ws i l vs j × (room ≡ true)
  unfolding lemma
  lemma-out room ws i l vs j h =
      bound (one LEMMA always (λ w. room) (head_allowed p) ws i) _ h (λ w us k e₁ h₁. bound (one SETS always always (premised w) us k) _ h₁ (λ s us₂ k₂ e₂ h₂.
      bound (times (row_count w s) multiplier us₂ k₂) _ h₂ (λ ms us₃ k₃ e₃ h₃.
      let o = one_out LEMMA always (λ w. room) (head_allowed p) ws i w us k e₁ in
      let q = one_out SETS always always (premised w) us k s us₂ k₂ e₂ in
      let t = (times-codec mult_codec (row_count w s)).out us₂ k₂ ms us₃ k₃ e₃ in
      let n = bits 19 16 w in
      let (front, back) = and-true (eqb (bits 15 8 w) 0 && source_allowed p (bits 27 20 w)) (leb n 4 && goal_allowed p (bits 27 20 w) (goal_of n) (bits 7 0 w)) o.allowed_is in
      let (few, goal) = and-true (leb n 4) (goal_allowed p (bits 27 20 w) (goal_of n) (bits 7 0 w)) back in
      let (named, source) = and-true (eqb (bits 15 8 w) 0) (source_allowed p (bits 27 20 w)) front in
      let first = head-word w o.kind_is (eqb-true (bits 15 8 w) 0 named) ∙ ap (λ (m : ℕ). word LEMMA (bits 27 20 w * 2 ^ 20 + m * 2 ^ 16 + bits 7 0 w)) (sym (head_goal p w o.allowed_is)) in
      let second = word_split s q.kind_is in (
        retaken {a = lemma_of w s ms} (record {
          words = o.words ∙ rw (← first) (ap (λ (r : List ℕ). w ∷ r) (q.words ∙ rw (← second) (ap (λ (r : List ℕ). s ∷ r) t.words)));
          place = omega (arith, o.place, q.place, t.place);
          good = record { source = source; goal = goal; premises = q.allowed_is; payload = omega arith; counted = t.good.0; small = t.good.1 };
        }) h₃,
        o.within-is,
      ))))

  module _ (l : Lemma) (good : LemmaOk p l) where
    abbrev first : ℕ
    first = word LEMMA (l.source * 2 ^ 20 + goal_number l.goal * 2 ^ 16 + l.index)

    abbrev second : ℕ
    second = word SETS l.premises.0

    pub first-is : (kind_of first ≡ LEMMA) × (bits 27 20 first ≡ l.source) × (bits 19 16 first ≡ goal_number l.goal) × (bits 15 8 first ≡ 0) × (bits 7 0 first ≡ l.index)
    first-is =
        let a = source-lt l.source good.source in
        let b = goal-few l.goal in
        let c = goal-lt l.source l.goal l.index good.goal in
        (omega arith, omega arith, omega arith, omega arith, omega arith)

    starts : kind_of first ≡ LEMMA
    starts = first-is.0

    lemma-same : lemma_of first second l.multipliers ≡ l
    lemma-same =
        let (k, s, g, z, i) = first-is in
        let e = payload-word SETS l.premises.0 good.payload in
        λ t. record { source = s t; goal = (ap goal_of g ∙ goal_again l.goal) t; index = i t; premises = record { 0 = e t }; multipliers = l.multipliers }

    lemma-into : (vs : List ℕ) (i : ℕ) → begins TERM vs ≡ false → (j : ℕ) × (lemma p true (encode_lemma l ++ vs) i ≡ got l vs j)
    unfolding lemma
    lemma-into vs i h =
        let (k, s, g, z, x) = first-is in
        let e = payload-word SETS l.premises.0 good.payload in
        let rest = concat encode_multiplier l.multipliers ++ vs in
        let head : head_allowed p first ≡ true = rw (s, g, z, x, goal_again l.goal, good.source, le-leb (goal_number l.goal) 4 (goal-few l.goal), good.goal) refl in
        let count : row_count first second ≡ length l.multipliers = ap (λ (m : Lemma). length (rows_of p m)) lemma-same ∙ sym good.counted in
        let (j, m) = (times-codec mult_codec (length l.multipliers)).into l.multipliers vs (suc (suc i)) (refl, good.small) h in (
          j,
          rw (
            one_in LEMMA always (λ w. true) (head_allowed p) first (second ∷ rest) i k refl refl head,
            one_in SETS always always (premised first) second rest (suc i) (kind_word SETS l.premises.0 good.payload) refl refl (rw (s, e) good.premises),
            count,
            m,
          ) (ap (λ (y : Lemma). got y vs j) lemma-same),
        )

  pub lemma-codec : Codec (lemma p true) encode_lemma (LemmaOk p)
  lemma-codec =
      record {
        out = λ ws i l vs j e. (lemma-out true ws i l vs j e).0;
        into = λ l vs i good h. lemma-into l good vs i h;
        head = λ l vs good h. rw (starts l good) refl;
      }

  pub lemma-full : (ws : List ℕ) (i : ℕ) (l : Lemma) (vs : List ℕ) (j : ℕ) → lemma p false ws i ≡ got l vs j → ⊥
  lemma-full ws i l vs j e = false-true (lemma-out false ws i l vs j e).1

  lemma-starts : (l : Lemma) (vs : List ℕ) → LemmaOk p l → begins LEMMA (encode_lemma l ++ vs) ≡ true
  lemma-starts l vs good = rw (starts l good) refl

  -- ---- a list of lemmas
  nothing_left : (ws : List ℕ) (i e : ℕ) (vs : List ℕ) (j : ℕ) → nothing ws i ≡ got e vs j → ws ≡ []
  nothing_left [] i e vs j h = refl
  nothing_left (w ∷ ws) i e vs j h = absurd (not-got h)

  pub record Listed (ws : List ℕ) (ls : List Lemma) : Type 0 where
    pub words : ws ≡ concat encode_lemma ls
    pub good : Few 512 (LemmaOk p) ls

  abbrev ListedOf : List ℕ → Read (List Lemma) → Type 0
  ListedOf ws (got ls us j) = Listed ws ls
  ListedOf ws (refused r) = Unit {0}

  list-out : (ws : List ℕ) (m : Read (List Lemma)) → list p ws 0 ≡ m → ListedOf ws m
  unfolding list
  list-out ws (refused r) h = tt
  list-out ws (got ls vs j) h =
      bound (many LEMMA (lemma p) 512 ws 0) _ h (λ xs us k e₁ h₁. bound (nothing us k) _ h₁ (λ z us₂ k₂ e₂ h₂.
      let t = many-out LEMMA (lemma p) lemma-codec lemma-full 512 ws 0 xs us k e₁ in
      let whole : ws ≡ concat encode_lemma xs = t.words ∙ rw (nothing_left us k z us₂ k₂ e₂) (append-nil (concat encode_lemma xs)) in
      subst (ListedOf ws) h₂ (record { words = whole; good = t.good })))

  -- an accepted list is the words of the lemmas that were read
  pub lemmas-accepted : (ws : List ℕ) (ls : List Lemma) (vs : List ℕ) (j : ℕ) → read_lemmas p ws ≡ got ls vs j → Listed ws ls
  lemmas-accepted ws ls vs j h = go (list p ws 0) refl h
    where
      go : (m : Read (List Lemma)) → list p ws 0 ≡ m → in_lemmas m ≡ got ls vs j → Listed ws ls
      go (got xs us k) e q = subst (ListedOf ws) q (list-out ws (got xs us k) e)
      go (refused r) e q = absurd (not-got q)

  -- the words of well-formed lemmas are read
  pub lemmas-encoded : (ls : List Lemma) → Few 512 (LemmaOk p) ls → (j : ℕ) × (read_lemmas p (concat encode_lemma ls) ≡ got ls [] j)
  unfolding list
  lemmas-encoded ls good =
      let (j, e) = many-into LEMMA (lemma p) lemma-codec lemma-full lemma-starts 512 ls [] 0 good.few good.each refl refl in
      let f = rw (append-nil (concat encode_lemma ls)) at e in
      (j, rw f refl)
