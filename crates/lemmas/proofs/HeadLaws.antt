-- What a lemma's first two words may say, by the program's counts and what the source sets; how many rows a lemma has.
use mathlib.Core.Path.{◌≡◌, refl, sym, ap, ◌∙◌}
use mathlib.Core.Bool.{Bool, true, false, cond, ◌&&◌, ◌||◌, not}
use mathlib.Core.List.{List, [], ◌∷◌}
use Prim.Native.Nat.{ℕ, zero, suc, ◌+◌, ◌-◌, ◌≤◌, ◌<◌}
use native.Mathlib.Omega.{arith}
use native.Mathlib.Numerals.{add-one}
use native.Mathlib.Decide.{ℕ_discrete}
use lib.Dec.{eqb, leb}
use lib.ListN.{length, get_or, set, replicate, length-append, length-set}
use lib.Seq.{get_or-set_same, get_or-set_other}
use borrow.Author.Tests.{eq-eqb, ne_eqb, lt-leb}
use Rattle.words.specs.Words.{bits, payload}
use Rattle.rows.specs.declared.Row.{Row}
use Rattle.rows.specs.Rows.{negated}
use Rattle.grammar.specs.Programs.{Assignment, Program}
use Rattle.grammar.specs.WellFormed.{Few, RowOk, Rising, WellFormed}
use Rattle.actions.specs.Results.{variables_set, none_set}
use Rattle.programs.specs.declared.Image.{Image}
use Rattle.words.specs.LiteralSets.{has}
use Rattle.runs.specs.Values.{row_if, premise_rows}
use Rattle.runs.specs.Runs.{action_of, literal_rows}
use Rattle.runs.proofs.LiteralRows.{premises-same}
use Rattle.lemmas.specs.Lemmas.{Goal, CannotHappen, HoldsAfter, FailsAfter, NotBelow, NotAbove, goal_number, goal_of, Lemma, START, negated_goal, source_rows, rows_of}
use Rattle.lemmas.specs.LemmaGrammar.{sets_variable, goal_allowed, head_allowed, premises_allowed, lemma_of}
use Rattle.lemmas.specs.Sources.{the_program, Held, shape_of, goal_by, head_by, premises_by, one_if, literal_count, row_count}
use Rattle.programs.specs.declared.Shape.{Shape}
use Rattle.lemmas.proofs.LemmaLaws.{action-rising, action-guards}
use Rattle.lemmas.proofs.SourceLaws.{counts}

-- ---- the marks of an action are its assignments
marks-is : (ss : List Assignment) (bs : List Bool) (vars v : ℕ) → Rising vars v ss → vars ≤ length bs → (i : ℕ) → get_or (variables_set bs ss) i false ≡ (get_or bs i false || sets_variable ss i)
unfolding variables_set sets_variable
marks-is [] bs vars v r l i = sym (or-none (get_or bs i false))
  where
    or-none : (b : Bool) → (b || false) ≡ b
    or-none true = refl
    or-none false = refl
marks-is (s ∷ ss) bs vars v r l i =
    let below = r.0.below in
    marks-is ss (set bs s.variable true) vars (suc s.variable) r.1 (rw (length-set bs s.variable true) l) i
    ∙ elim (ℕ_discrete i s.variable) [
      | yes e ↦ rw (e, get_or-set_same bs s.variable true false (omega arith), eq-eqb s.variable s.variable refl) (sym (or_true (get_or bs s.variable false)))
      | no n ↦ rw (get_or-set_other bs s.variable i true false n, ne_eqb s.variable i (λ e. n (sym e))) refl
    ]
  where
    or_true : (b : Bool) → (b || true) ≡ true
    or_true true = refl
    or_true false = refl

copied : {A : Type 0} (n : ℕ) (d : A) (i : ℕ) → get_or (replicate n d) i d ≡ d
copied zero d i = refl
copied (suc n) d zero = refl
copied (suc n) d (suc i) = copied n d i

module _ (p : Program) (ok : WellFormed p) (s : ℕ) where
  pub marks-of : (i : ℕ) → get_or (variables_set none_set (action_of p s).sets) i false ≡ sets_variable (action_of p s).sets i
  marks-of i = marks-is (action_of p s).sets none_set (length p.ranges) 0 (action-rising (length p.ranges) p.actions s ok.actions.each) ok.ranges.few i
      ∙ rw (copied 8 false i) refl

  pub goal-by : (g i : ℕ) → goal_by (length p.predicates) (variables_set none_set (action_of p s).sets) g i ≡ (leb g 4 && goal_allowed p s (goal_of g) i)
  goal-by zero i = refl
  goal-by (suc zero) i = refl
  goal-by (suc (suc zero)) i = refl
  goal-by (suc (suc (suc zero))) i = marks-of i
  goal-by (suc (suc (suc (suc zero)))) i = marks-of i
  goal-by (suc (suc (suc (suc (suc g))))) i = rw (lt-leb (suc (suc (suc (suc (suc g))))) 4 (omega arith)) refl

-- ---- how many rows
length_if : (b : Bool) (r : Row) → length (row_if b r) ≡ one_if b
length_if true r = refl
length_if false r = refl

pub literals-counted : (i : ℕ) (rs : List Row) (set : ℕ) → length (premise_rows i rs set) ≡ literal_count i (length rs) set
unfolding premise_rows literal_count
literals-counted i [] set = refl
literals-counted i (r ∷ rs) set =
    length-append (row_if (has i set) r) _ ∙ rw (length-append (row_if (has (14 + i) set) (negated r)) (premise_rows (suc i) rs set), length_if (has i set) r, length_if (has (14 + i) set) (negated r), literals-counted (suc i) rs set) refl

goals_counted : (p : Program) (s : ℕ) (g : Goal) (i : ℕ) → length (negated_goal p s g i) ≡ one_if (not (eqb (goal_number g) 0))
goals_counted p s CannotHappen i = refl
goals_counted p s HoldsAfter i = refl
goals_counted p s FailsAfter i = refl
goals_counted p s NotBelow i = refl
goals_counted p s NotAbove i = refl

none_alike : (n : ℕ) → eqb n 0 ≡ eqb (goal_number (goal_of n)) 0
none_alike zero = refl
none_alike (suc zero) = refl
none_alike (suc (suc zero)) = refl
none_alike (suc (suc (suc zero))) = refl
none_alike (suc (suc (suc (suc n)))) = ne_eqb (suc (suc (suc (suc n)))) 0 (λ e. omega arith)

pub rows-counted : (p : Program) (l : Lemma) → row_count (goal_number l.goal) (length p.predicates) l.premises.0 (length (source_rows p l.source)) ≡ length (rows_of p l)
rows-counted p l =
    let m : length (literal_rows p l.premises) ≡ literal_count 0 (length p.predicates) l.premises.0 =
    ap length (premises-same p l.premises) ∙ literals-counted 0 p.predicates l.premises.0 in
    sym (length-append (negated_goal p l.source l.goal l.index) _
    ∙ rw (goals_counted p l.source l.goal l.index, length-append (literal_rows p l.premises) (source_rows p l.source), m) refl)

-- ---- the loop that counts literals: t so far, of those below i
pub record Counting (n set i t : ℕ) : Type 0 where
  pub few : i ≤ n
  pub small : t ≤ i + i
  pub same : t + literal_count i (n - i) set ≡ literal_count 0 n set

one_if_small : (b : Bool) → one_if b ≤ 1
one_if_small true = omega arith
one_if_small false = omega arith

module _ (n set : ℕ) where
  pub counting-next : {i t : ℕ} → Counting n set i t → i < n → Counting n set (i + 1) (t + (one_if (has i set) + one_if (has (14 + i) set)))
  unfolding literal_count
  counting-next {i} {t} c l =
      let a = one_if_small (has i set) in
      let b = one_if_small (has (14 + i) set) in
      let one : n - i ≡ suc (n - suc i) = omega arith in
      let e = rw one at c.same in
      record { few = omega arith; small = omega (arith, c.small); same = rw (add-one i) (omega (arith, e)) }

  pub counting-all : {i t : ℕ} → Counting n set i t → n ≤ i → t ≡ literal_count 0 n set
  unfolding literal_count
  counting-all {i} {t} c l = let none : n - i ≡ 0 = omega arith in let e = rw none at c.same in omega (arith, e)

-- ---- the rows of a source are few, and each is good
pub source-rows-good : (p : Program) → WellFormed p → (s : ℕ) → Few 8 (RowOk (length p.ranges)) (source_rows p s)
source-rows-good p ok s = go (eqb s START)
  where
    go : (b : Bool) → Few 8 (RowOk (length p.ranges)) (cond b p.start (action_of p s).guards)
    go true = ok.start
    go false = action-guards (length p.ranges) p.actions s ok.actions.each

-- ---- by the image of a program
module _ (ws : List ℕ) {g : Image} (h : Held ws g) where
  abbrev p : Program
  p = the_program ws

  -- of a LEMMA word w and a SETS word s, as they were read, and the shape of the source of w
  module _ (w s : ℕ) {w' s' n g' : ℕ} {x : Shape} (ew : w' ≡ w) (es : s' ≡ s) (en : n ≡ bits 27 20 w') (eg : g' ≡ bits 19 16 w') (ex : x ≡ shape_of p (bits 27 20 w)) where
    pub head-known : head_by g.actions g.preds x.set w' ≡ head_allowed p w
    head-known = rw (ew, ex, (counts ws h 0).0, (counts ws h 0).1, goal-by p h.accepted.good (bits 27 20 w) (bits 19 16 w) (bits 7 0 w)) refl

    pub premises-known : premises_by g.preds n (payload s') ≡ premises_allowed p (bits 27 20 w) (payload s)
    premises-known = rw (en, ew, es, (counts ws h 0).1) refl

    pub rows-known : row_count g' g.preds (payload s') x.count ≡ length (rows_of p (lemma_of w s []))
    rows-known = rw (ex, eg, ew, es, (counts ws h 0).1, none_alike (bits 19 16 w)) (rows-counted p (lemma_of w s []))
