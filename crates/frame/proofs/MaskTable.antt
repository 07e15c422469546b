-- The masks of a program: what is read of its image, and the mask of each action by `untouched` (`masks-at`).
use mathlib.Core.Path.{◌≡◌, refl, sym, ap, ◌∙◌}
use mathlib.Core.Bool.{Bool, true, false, not, ◌||◌}
use mathlib.Core.Logic.{⊎_elim, ◌↔◌}
use mathlib.Core.List.{List}
use Prim.Native.Nat.{ℕ, zero, suc, ◌≤◌, ◌<◌}
use native.Mathlib.Decide.{dec_lt}
use native.Mathlib.Omega.{arith}
use lib.Dec.{eqb}
use lib.IntN.{pos, nat_abs}
use lib.ListN.{length, get_or, take, length-take}
use borrow.Author.Tests.{eqb-true, eq-eqb, lt-ltb, le-ltb}
use native.Mathlib.Nat.{not-suc-le-zero, eq-or-lt_of_le, le_of_suc-le-suc}
use Rattle.integers.proofs.Fill.{same_default}
use Rattle.integers.proofs.Tests.{and-true, false-true, same_test}
use Rattle.rows.specs.declared.Row.{Row}
use Rattle.rows.specs.Bounds.{no_row}
use Rattle.grammar.specs.Programs.{Program}
use Rattle.grammar.specs.WellFormed.{WellFormed}
use Rattle.reader.specs.Results.{zero_row}
use Rattle.actions.specs.Results.{variables_set, none_set}
use Rattle.programs.specs.declared.Image.{Image}
use Rattle.programs.specs.declared.Shape.{Shape}
use Rattle.programs.specs.Images.{image_of}
use Rattle.programs.proofs.Tables.{table_at, table-past}
use Rattle.runs.specs.Runs.{action_of, predicate}
use Rattle.runs.proofs.Sizes.{ReadRows, guards-read, front_stored}
use Rattle.lemmas.specs.LemmaGrammar.{sets_variable}
use Rattle.lemmas.proofs.SourceLaws.{stored-shape, front_read}
use Rattle.lemmas.proofs.HeadLaws.{marks-of}
use Rattle.lemmas.proofs.LemmaLaws.{sets-known, action-rising}
use Rattle.sets.specs.Sets.{pairs_to}
use Rattle.frame.specs.Frame.{zero_on, untouched}
use Rattle.frame.specs.Masks.{clear_below, mask_to, mask_by, mask_of, masks_of}
use Rattle.frame.proofs.Frame.{Zero, zero_in, zero_out}

-- ---- what the loop reads of an image
mask-none : (n : ℕ) → mask_to (λ j. false) n ≡ 0
unfolding pairs_to
mask-none zero = refl
mask-none (suc n) = mask-none n

mask_alike : (t u : ℕ → Bool) (n : ℕ) → ((j : ℕ) → j < n → t j ≡ u j) → mask_to t n ≡ mask_to u n
unfolding pairs_to
mask_alike t u zero h = refl
mask_alike t u (suc n) h = rw (h n (omega arith), mask_alike t u n (λ j l. h j (omega arith)))

module _ {image : Image} where
  -- by a well-formed program of which it is the image
  module _ (p : Program) (ok : WellFormed p) (same : image ≡ image_of p) where
    pub counts-few : (image.actions ≤ 16) × (image.preds ≤ 14)
    counts-few = (omega (arith, ap (λ (y : Image). y.actions) same, ok.actions.few), omega (arith, ap (λ (y : Image). y.preds) same, ok.predicates.few))

    pub rows-ready : (length (take image.preds image.pred) ≤ 14) × ReadRows (take image.preds image.pred)
    rows-ready =
        let few = counts-few.1 in
        (omega (arith, length-take {A = Row}), front_read image.preds image.pred (rw same (guards-read 14 (length p.ranges) p.predicates ok.predicates.each)))

  -- by any
  module _ (few : (image.actions ≤ 16) × (image.preds ≤ 14)) (p : Program) (same : image ≡ image_of p) where
    pub actions_are : image.actions ≡ length p.actions
    actions_are = ap (λ (y : Image). y.actions) same

    front-is : take image.preds image.pred ≡ p.predicates
    front-is = rw same (front_stored 14 zero_row p.predicates (omega (arith, few.1, ap (λ (y : Image). y.preds) same)))

    pub mask-stored : (k : ℕ) (d : Shape) → k < image.actions
        → mask_by (take image.preds image.pred) (get_or image.shapes k d).set (length (take image.preds image.pred)) ≡ mask_of p (action_of p k)
    mask-stored k d l =
        rw (front-is, stored-shape p (omega (arith, few.0, actions_are)) (ap (λ (y : Image). y.shapes) same) k d (omega (arith, actions_are))) refl

-- ---- the variables that are marked are those that are set
clear-is : (marks : List Bool) (r : Row) (n : ℕ) → (clear_below marks r.coef n ≡ true) ↔ ((v : ℕ) → v < n → get_or marks v false ≡ true → Zero r v)
unfolding clear_below
clear-is marks r zero = (λ h v l. absurd (not-suc-le-zero l), λ h. refl)
clear-is marks r (suc n) =
    let (to, back) = clear-is marks r n in
    let zero-here = eqb (nat_abs (get_or r.coef n (pos 0))) 0 in (
      λ h. let (a, b) = and-true (clear_below marks r.coef n) (not (get_or marks n false) || zero-here) h in
          λ v l m. ⊎_elim (λ e. rw e (eqb-true (nat_abs (get_or r.coef n (pos 0))) 0 (last (get_or marks n false) zero-here (rw e at m) b))) (λ lt. to a v lt m) (eq-or-lt_of_le (le_of_suc-le-suc l)),
      λ h. rw (back (λ v l. h v (omega arith))) (first (get_or marks n false) zero-here (λ m. eq-eqb (nat_abs (get_or r.coef n (pos 0))) 0 (h n (omega arith) m))),
    )
  where
    last : (m z : Bool) → m ≡ true → (not m || z) ≡ true → z ≡ true
    last true z e h = h
    last false z e h = false-true e

    first : (m z : Bool) → (m ≡ true → z ≡ true) → (not m || z) ≡ true
    first true z f = f refl
    first false z f = refl

module _ (p : Program) (ok : WellFormed p) (k : ℕ) where
  set-few : (v : ℕ) → sets_variable (action_of p k).sets v ≡ true → v < 8
  set-few v e = omega (arith, sets-known (length p.ranges) 0 (action_of p k).sets v (action-rising (length p.ranges) p.actions k ok.actions.each) e, ok.ranges.few)

  clear_zero : (r : Row) → clear_below (variables_set none_set (action_of p k).sets) r.coef 8 ≡ zero_on (action_of p k).sets r
  clear_zero r =
      let marks = variables_set none_set (action_of p k).sets in
      let (to, back) = clear-is marks r 8 in
      same_test (clear_below marks r.coef 8) (zero_on (action_of p k).sets r)
      (λ h. zero_in (action_of p k).sets r (λ v e. to h v (set-few v e) (marks-of p ok k v ∙ e)))
      (λ h. back (λ v l m. zero_out (action_of p k).sets r h v (sym (marks-of p ok k v) ∙ m)))

  pub masks-at : get_or (masks_of p) k 0 ≡ mask_to (untouched p k) (length p.predicates)
  masks-at = elim (dec_lt k (length p.actions)) [
    | yes l ↦ table_at (mask_of p) p ok.actions.few k l
        ∙ mask_alike _ (untouched p k) (length p.predicates) (λ j h. rw (lt-ltb k (length p.actions) l) (ap (λ (r : Row). clear_below (variables_set none_set (action_of p k).sets) r.coef 8) (same_default p.predicates j no_row _ h) ∙ clear_zero (predicate p j)))
    | no l ↦ table-past (mask_of p) p ok.actions.few k (omega arith)
        ∙ sym (mask_alike (untouched p k) (λ j. false) (length p.predicates) (λ j h. rw (le-ltb k (length p.actions) (omega arith)) refl) ∙ mask-none (length p.predicates))
  ]
