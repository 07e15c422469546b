-- The parts of an accepted list, by 01's own sentence, are the words of its actions, and stand where these begin.
use mathlib.Core.Path.{◌≡◌, refl, ap, ◌∙◌}
use mathlib.Core.Bool.{Bool, true, false, cond, ◌||◌}
use mathlib.Core.List.{List, [], ◌∷◌, ◌++◌, map, append_assoc, append-nil}
use Prim.Native.Nat.{ℕ, suc, ◌+◌, ◌*◌, ◌^◌, ◌≤◌, ◌<◌}
use native.Mathlib.Omega.{arith}
use lib.Dec.{eqb}
use lib.IntN.{ℤ, pos, negsuc}
use lib.ListN.{length, get_or}
use borrow.Author.Tests.{eqb-true}
use Rattle.integers.proofs.Int.{up, dn, le_in}
use Rattle.words.specs.Words.{kind_of, word, unsigned, VAR, ROW, TERM, INIT, PRED, ACTION, SET, SETS, END}
use Rattle.words.specs.Limits.{most_rows, most_predicates, least_constant, most_constant}
use Rattle.words.specs.declared.Literals.{Literals}
use Rattle.words.proofs.Laws.{kind_word}
use Rattle.rows.specs.declared.Range.{Range}
use Rattle.rows.specs.declared.Row.{Row}
use Rattle.rows.specs.Rows.{between}
use Rattle.rows.proofs.Laws.{between_out}
use Rattle.grammar.specs.Reading.{got}
use Rattle.grammar.specs.Programs.{Assignment, Action, Program}
use Rattle.grammar.specs.Encoding.{concat, encode_range, encode_coef, encode_coefs, encode_row, encode_rows, encode_set, encode_action, encode_literals}
use Rattle.grammar.specs.WellFormed.{Each, Few, RangeOk, RowOk, Rising, ActionOk, LiteralsOk}
use Rattle.grammar.proofs.WordLaws.{range_starts}
use Rattle.grammar.proofs.RowLaws.{Coef, term-kind}
use Rattle.grammar.proofs.ActionLaws.{action-starts}
use Rattle.grammar.proofs.ProgramLaws.{Accepted, accepted, end_words}
use Rattle.programs.specs.Calls.{read, ends_part, up_to_end, parts, actions_at, action_part}
use Rattle.programs.specs.Places.{places, first_action}
use Rattle.programs.proofs.Places.{before, behind, around}

-- ---- lists of words that end no part
abbrev Inner : List ℕ → Type 0
Inner = Each (λ w. ends_part w ≡ false)

first-false : (a b c : Bool) → (a || b || c) ≡ false → a ≡ false
first-false true b c h = h
first-false false b c h = refl

no_action_word : (w : ℕ) → ends_part w ≡ false → eqb (kind_of w) ACTION ≡ false
no_action_word w h = first-false (eqb (kind_of w) ACTION) (eqb (kind_of w) SETS) (eqb (kind_of w) END) h

module _ (vs : List ℕ) where
  parts-past : (us : List ℕ) → Inner us → parts (us ++ vs) ≡ parts vs
  unfolding parts
  parts-past [] p = refl
  parts-past (u ∷ us) p = rw (no_action_word u p.0) (parts-past us p.1)

  up-past : (us : List ℕ) → Inner us → up_to_end (us ++ vs) ≡ us ++ up_to_end vs
  unfolding up_to_end
  up-past [] p = refl
  up-past (u ∷ us) p = rw p.0 (ap (λ (l : List ℕ). u ∷ l) (up-past us p.1))

  at-past : (i : ℕ) (us : List ℕ) → Inner us → actions_at i (us ++ vs) ≡ actions_at (i + length us) vs
  unfolding actions_at
  at-past i [] p = ap (λ (n : ℕ). actions_at n vs) (omega arith)
  at-past i (u ∷ us) p = rw (no_action_word u p.0) (at-past (suc i) us p.1 ∙ ap (λ (n : ℕ). actions_at n vs) (omega arith))

inner_append : (us vs : List ℕ) → Inner us → Inner vs → Inner (us ++ vs)
inner_append [] vs p q = q
inner_append (u ∷ us) vs p q = (p.0, inner_append us vs p.1 q)

module _ {A : Type 0} (e : A → List ℕ) {P : A → Type 0} (one : (a : A) → P a → Inner (e a)) where
  inner-concat : (xs : List A) → Each P xs → Inner (concat e xs)
  unfolding concat
  inner-concat [] p = tt
  inner-concat (x ∷ xs) p = inner_append (e x) (concat e xs) (one x p.0) (inner-concat xs p.1)

-- ---- the words of ranges, rows and assignments
inner_range : (r : Range) → RangeOk r → Inner (encode_range r)
inner_range r p =
    let kind : kind_of (word VAR (unsigned 14 r.low * 2 ^ 14 + unsigned 14 r.high)) ≡ VAR = eqb-true _ VAR (range_starts r [] p) in
    (rw kind refl, tt)

inner_coefs : (v : ℕ) (cs : List ℤ) → v + length cs ≤ 16 → Each Coef cs → Inner (encode_coefs v cs)
unfolding encode_coefs
inner_coefs v [] l p = tt
inner_coefs v (c ∷ cs) l p =
    inner_append (encode_coef v c) (encode_coefs (suc v) cs) (one (eqb (unsigned 16 c) 0)) (inner_coefs (suc v) cs (omega arith) p.1)
  where
    one : (b : Bool) → Inner (cond b [] (word TERM (v * 2 ^ 24 + unsigned 16 c) ∷ []))
    one true = tt
    one false = (rw (term-kind v c p.0 (omega arith)) refl, tt)

constant-fits : (z : ℤ) → between least_constant most_constant z ≡ true → unsigned 28 z < 2 ^ 28
unfolding up dn
constant-fits (pos n) p = omega (arith, le_in (between_out least_constant most_constant (pos n) p).1)
constant-fits (negsuc n) p = omega arith

inner_row : (vars : ℕ) (r : Row) → RowOk vars r → Inner (encode_row r)
inner_row vars r p = (
  rw (kind_word ROW (unsigned 28 r.constant) (constant-fits r.constant p.constant)) refl,
  inner_coefs 0 r.coef (omega (arith, p.eight)) p.small,
)

inner_rows : (kind most vars : ℕ) (rs : List Row) → most < 2 ^ 28 → Few most (RowOk vars) rs → ends_part (word kind 0) ≡ false
    → Inner (encode_rows kind rs)
inner_rows kind most vars rs l p h =
    let same = kind_word kind (length rs) (omega (arith, p.few)) in
    (rw same (rw (kind_word kind 0 (omega arith)) at h), inner-concat encode_row (inner_row vars) rs p.each)

module _ (vars : ℕ) (few : vars ≤ 8) where
  inner-sets : (v : ℕ) (ss : List Assignment) → Rising vars v ss → Inner (concat encode_set ss)
  unfolding concat
  inner-sets v [] p = tt
  inner-sets v (s ∷ ss) p =
      let kind = kind_word SET s.variable (omega (arith, p.0.below)) in
      inner_append (encode_set s) (concat encode_set ss) (rw kind refl, inner_row vars s.row p.0.row) (inner-sets (suc s.variable) ss p.1)

  -- ---- the actions, and what follows them
  abbrev body : Action → List ℕ
  body a = concat encode_row a.guards ++ concat encode_set a.sets

  inner-body : (a : Action) → ActionOk vars a → Inner (body a)
  inner-body a p =
      inner_append (concat encode_row a.guards) (concat encode_set a.sets)
      (inner-concat encode_row (inner_row vars) a.guards p.guards.each) (inner-sets 0 a.sets p.rising)

  module _ (tail : List ℕ) where
    stopped : up_to_end tail ≡ [] → (xs : List Action) → Each (ActionOk vars) xs → up_to_end (concat encode_action xs ++ tail) ≡ []
    unfolding concat up_to_end
    stopped end [] p = end
    stopped end (x ∷ xs) p = rw (action-starts vars few x [] p.0) refl

    actions-parts : up_to_end tail ≡ [] → parts tail ≡ [] → (xs : List Action) → Each (ActionOk vars) xs
        → parts (concat encode_action xs ++ tail) ≡ map encode_action xs
    unfolding concat parts
    actions-parts end none [] p = none
    actions-parts end none (x ∷ xs) p =
        let rest = concat encode_action xs ++ tail in
        let inner = inner-body x p.0 in
        let split = append_assoc (body x) (concat encode_action xs) tail in
        let first = action-starts vars few x [] p.0 in
        let past = parts-past rest (body x) inner in
        rw (split, first, up-past rest (body x) inner, stopped end xs p.1, append-nil (body x), past, actions-parts end none xs p.1) refl

    actions-places : ((i : ℕ) → actions_at i tail ≡ []) → (i : ℕ) (xs : List Action) → Each (ActionOk vars) xs
        → actions_at i (concat encode_action xs ++ tail) ≡ places encode_action i xs
    unfolding concat actions_at places
    actions-places none i [] p = none i
    actions-places none i (x ∷ xs) p =
        let rest = concat encode_action xs ++ tail in
        let next = at-past rest (suc i) (body x) (inner-body x p.0) in
        let same : suc i + length (body x) ≡ i + length (encode_action x) = omega arith in
        let split = append_assoc (body x) (concat encode_action xs) tail in
        rw (split, action-starts vars few x [] p.0, next, same, actions-places none (i + length (encode_action x)) xs p.1) refl

module _ (preds : ℕ) where
  no-parts : (ls : List Literals) → Each (LiteralsOk preds) ls → parts (concat encode_literals ls ++ end_words) ≡ []
  unfolding concat parts
  no-parts [] p = refl
  no-parts (l ∷ ls) p = rw (kind_word SETS l.0 p.0.payload) (no-parts ls p.1)

  no-places : (i : ℕ) (ls : List Literals) → Each (LiteralsOk preds) ls → actions_at i (concat encode_literals ls ++ end_words) ≡ []
  unfolding concat actions_at
  no-places i [] p = refl
  no-places i (l ∷ ls) p = rw (kind_word SETS l.0 p.0.payload) (no-places (suc i) ls p.1)

  ends-at-once : (ls : List Literals) → Each (LiteralsOk preds) ls → up_to_end (concat encode_literals ls ++ end_words) ≡ []
  unfolding concat up_to_end
  ends-at-once [] p = refl
  ends-at-once (l ∷ ls) p = rw (kind_word SETS l.0 p.0.payload) refl

-- ---- an accepted list
module _ (ws : List ℕ) (p : Program) (ok : Accepted ws p) where
  abbrev rest : List ℕ
  rest = concat encode_action p.actions ++ behind p

  inner-before : Inner (before p)
  inner-before =
      let good = ok.good in
      let gs = inner-concat encode_range inner_range p.ranges good.ranges.each in
      let start = inner_rows INIT most_rows (length p.ranges) p.start (omega arith) good.start refl in
      let preds = inner_rows PRED most_predicates (length p.ranges) p.predicates (omega arith) good.predicates refl in
      inner_append (concat encode_range p.ranges ++ encode_rows INIT p.start) (encode_rows PRED p.predicates)
      (inner_append (concat encode_range p.ranges) (encode_rows INIT p.start) gs start) preds

  -- the parts are the words of the actions
  pub parts_are : parts ws ≡ map encode_action p.actions
  parts_are =
      let good = ok.good in
      let ls = good.forbidden.each in
      let n = length p.predicates in
      ap parts (around ws p ok) ∙ parts-past rest (before p) inner-before
      ∙ actions-parts (length p.ranges) good.ranges.few (behind p) (ends-at-once n p.forbidden ls) (no-parts n p.forbidden ls)
      p.actions good.actions.each

  -- and the ACTION words stand where the actions begin
  pub places-are : actions_at 0 ws ≡ places encode_action (first_action p) p.actions
  places-are =
      let good = ok.good in
      let none : (i : ℕ) → actions_at i (behind p) ≡ [] = λ i. no-places (length p.predicates) i p.forbidden good.forbidden.each in
      ap (actions_at 0) (around ws p ok) ∙ at-past rest 0 (before p) inner-before ∙ ap (λ (i : ℕ). actions_at i rest) (omega arith)
      ∙ actions-places (length p.ranges) good.ranges.few (behind p) none (first_action p) p.actions good.actions.each

-- Action part hands back the words of the action
pub part-is : (ws : List ℕ) (p : Program) {us : List ℕ} {i : ℕ} → read ws ≡ got p us i
    → (k : ℕ) → action_part ws k ≡ get_or (map encode_action p.actions) k []
part-is ws p {us} {i} e k = rw (e, parts_are ws p (accepted ws p us i e)) refl
