-- The parts of a program, one after the other, by the answers of their readers.
use mathlib.Core.Path.{◌≡◌, refl, sym, ap, ◌∙◌}
use mathlib.Core.Bool.{false}
use mathlib.Core.List.{List, map}
use Prim.Native.Nat.{ℕ, ◌+◌, ◌^◌, ◌≤◌, ◌<◌}
use native.Mathlib.Omega.{arith}
use native.Mathlib.Nat.{zero-add}
use lib.Dec.{eqb}
use lib.ListN.{length, drop, replicate}
use lib.Seq.{sets}
use Rattle.words.specs.Words.{no_literals, TERM, ACTION, SETS}
use Rattle.words.specs.declared.Refusal.{Refusal}
use Rattle.words.specs.declared.Literals.{Literals}
use Rattle.rows.specs.declared.Range.{Range}
use Rattle.rows.specs.declared.Row.{Row}
use Rattle.std.specs.Prelude.{Result, Ok, Err}
use Rattle.grammar.specs.Reading.{Read, got, many}
use Rattle.grammar.specs.Programs.{Action}
use Rattle.grammar.specs.Grammar.{ranges, rows, action, combination, end}
use Rattle.grammar.specs.Encoding.{concat, encode_range, encode_rows, encode_action}
use Rattle.grammar.proofs.ReadingLaws.{many-out}
use Rattle.grammar.proofs.WordLaws.{literals-codec, literals-full}
use Rattle.grammar.proofs.ActionLaws.{action-codec, action-full}
use Rattle.grammar.proofs.ProgramLaws.{ranges_out, rows-codec}
use Rattle.reader.specs.Results.{next_of, zero_rows}
use Rattle.reader.proofs.Laws.{err-out, ok-out}
use Rattle.reader.proofs.RowsLoop.{left_is, left-within}
use Rattle.programs.specs.declared.Ranges.{Ranges}
use Rattle.programs.specs.declared.Counted.{Counted}
use Rattle.programs.specs.declared.Actions.{Actions}
use Rattle.programs.specs.declared.Forbidden.{Forbidden}
use Rattle.programs.specs.declared.Image.{Image}
use Rattle.programs.specs.Images.{ranges_from, zero_ranges, counted_read, no_shape, action_shape, none_stored, actions_from, forbidden_from, rest, image_with, rest_loaded}
use Rattle.programs.specs.Places.{places}

at-place : {A : Type 0} {m : Read A} {a : A} {us : List ℕ} {j n : ℕ} → m ≡ got a us n → j ≡ n → m ≡ got a us j
at-place {a = a} {us = us} e p = e ∙ ap (λ (k : ℕ). got a us k) (sym p)

-- the ranges that were read, up to index j
pub record RangesAt (ws : List ℕ) (x : Ranges) (j : ℕ) (gs : List Range) : Type 0 where
  pub taken : ranges ws 0 ≡ got gs (drop j ws) j
  pub place : j ≡ length (concat encode_range gs)
  pub here : j ≤ length ws
  pub few : length gs ≤ 8
  pub stored : x.ranges ≡ sets zero_ranges 0 gs
  pub counted : x.count ≡ length gs

pub ranges-at : (ws : List ℕ) {x : Ranges} {j : ℕ} → ◌≡◌ {A = Result (Ranges × ℕ) Refusal} (Ok (x, j)) (ranges_from zero_ranges 0 0 (ranges ws 0))
    → (gs : List Range) × RangesAt ws x j gs
ranges-at ws {x} {j} e =
    let (gs, us, n, q', p) = ok-out _ _ e in
    let q = at-place q' (ap (λ (y : Ranges × ℕ). y.1) p) in
    let t = ranges_out ws 0 gs us j q in (
      gs,
      record {
        taken = rw (left_is ws {i = 0} (omega arith) t) at q;
        place = t.place ∙ zero-add (length (concat encode_range gs));
        here = left-within ws {i = 0} (omega arith) t;
        few = t.good.1.few;
        stored = ap (λ (y : Ranges × ℕ). y.0.ranges) p;
        counted = ap (λ (y : Ranges × ℕ). y.0.count) p ∙ zero-add (length gs);
      },
    )

-- the rows after INIT or PRED at index i, up to index j
pub record CountedAt (ws : List ℕ) (kind most vars i : ℕ) (x : Counted) (j : ℕ) (rs : List Row) : Type 0 where
  pub taken : rows kind most vars (drop i ws) i ≡ got rs (drop j ws) j
  pub place : j ≡ i + length (encode_rows kind rs)
  pub here : j ≤ length ws
  pub few : length rs ≤ most
  pub stored : x.rows ≡ sets zero_rows 0 rs
  pub counted : x.count ≡ length rs

pub counted-at : (ws : List ℕ) (kind most vars i : ℕ) {x : Counted} {j : ℕ} → ◌≡◌ {A = Result (Counted × ℕ) Refusal} (Ok (x, j)) (counted_read (rows kind most vars (drop i ws) i))
    → vars ≤ 8 → most < 2 ^ 28 → eqb kind TERM ≡ false → i ≤ length ws → (rs : List Row) × CountedAt ws kind most vars i x j rs
counted-at ws kind most vars i {x} {j} e few small other l =
    let (rs, us, n, q', p) = ok-out _ _ e in
    let q = at-place q' (ap (λ (y : Counted × ℕ). y.1) p) in
    let t = (rows-codec kind most vars few small other).out (drop i ws) i rs us j q in (
      rs,
      record {
        taken = rw (left_is ws l t) at q;
        place = t.place;
        here = left-within ws l t;
        few = t.good.few;
        stored = ap (λ (y : Counted × ℕ). y.0.rows) p;
        counted = ap (λ (y : Counted × ℕ). y.0.count) p;
      },
    )

-- ---- the actions, the forbidden combinations and the end, from index `at` on
module _ (gs : Ranges) (start ps : Counted) (few : gs.count ≤ 8) (ws : List ℕ) (at : ℕ) (l : at ≤ length ws) where
  abbrev vars : ℕ
  vars = gs.count

  abbrev preds : ℕ
  preds = ps.count

  abbrev restAnswer : Result Image Refusal
  restAnswer = rest_loaded gs start ps (rest vars preds (drop at ws) at) at

  abbrev actionsRead : Result (Actions × ℕ) Refusal
  actionsRead = actions_from none_stored 0 at (many ACTION (action vars) 16 (drop at ws) at)

  pub actions-refused : {r : Refusal} → Err r ≡ actionsRead → Err r ≡ restAnswer
  unfolding rest
  actions-refused e = rw (err-out _ _ e) refl

  module _ {x : Actions} {j : ℕ} (e : ◌≡◌ {A = Result (Actions × ℕ) Refusal} (Ok (x, j)) actionsRead) where
    record ActionsAt (xs : List Action) : Type 0 where
      read : many ACTION (action vars) 16 (drop at ws) at ≡ got xs (drop j ws) j
      here : j ≤ length ws
      is : x ≡ record { begin_at = sets (replicate 16 0) 0 (places encode_action at xs); shapes = sets (replicate 16 no_shape) 0 (map action_shape xs); count = length xs }

    actions-at : (xs : List Action) × ActionsAt xs
    actions-at =
        let (xs, us, n, q', p) = ok-out _ _ e in
        let q = at-place q' (ap (λ (y : Actions × ℕ). y.1) p) in
        let t = many-out ACTION (action vars) (action-codec vars few) (action-full vars few) 16 (drop at ws) at xs us j q in
        (xs, record { read = rw (left_is ws l t) at q; here = left-within ws l t; is = rw (zero-add (length xs)) at (ap (λ (y : Actions × ℕ). y.0) p) })

    pub actions-within : j ≤ length ws
    actions-within = actions-at.1.here

    abbrev forbiddenRead : Result (Forbidden × ℕ) Refusal
    forbiddenRead = forbidden_from (replicate 8 no_literals) 0 j (many SETS (combination preds) 8 (drop j ws) j)

    pub forbidden-refused : {r : Refusal} → Err r ≡ forbiddenRead → Err r ≡ restAnswer
    unfolding rest
    forbidden-refused f = rw (actions-at.1.read, err-out _ _ f) refl

    module _ {y : Forbidden} {k : ℕ} (f : ◌≡◌ {A = Result (Forbidden × ℕ) Refusal} (Ok (y, k)) forbiddenRead) where
      record ForbiddenAt (ls : List Literals) : Type 0 where
        read : many SETS (combination preds) 8 (drop j ws) j ≡ got ls (drop k ws) k
        here : k ≤ length ws
        is : y ≡ record { literals = sets (replicate 8 no_literals) 0 ls; count = length ls }

      forbidden-at : (ls : List Literals) × ForbiddenAt ls
      forbidden-at =
          let (ls, us, n, q', p) = ok-out _ _ f in
          let q = at-place q' (ap (λ (z : Forbidden × ℕ). z.1) p) in
          let t = many-out SETS (combination preds) (literals-codec preds) (literals-full preds) 8 (drop j ws) j ls us k q in
          (ls, record { read = rw (left_is ws actions-within t) at q; here = left-within ws actions-within t; is = rw (zero-add (length ls)) at (ap (λ (z : Forbidden × ℕ). z.0) p) })

      pub forbidden-within : k ≤ length ws
      forbidden-within = forbidden-at.1.here

      pub end-stopped : {r : Refusal} → Err r ≡ next_of (end (drop k ws) k) → Err r ≡ restAnswer
      unfolding rest
      end-stopped g = rw (actions-at.1.read, forbidden-at.1.read, err-out _ _ g) refl

      pub rest_read : {i : ℕ} → Ok i ≡ next_of (end (drop k ws) k)
          → Ok (image_with gs start ps x.begin_at x.shapes x.count y.literals y.count) ≡ restAnswer
      unfolding rest
      rest_read g =
          let (z, us, n, q, p) = ok-out _ _ g in
          let a = actions-at.1.is in
          let b = forbidden-at.1.is in
          rw (actions-at.1.read, forbidden-at.1.read, q)
          (λ t. Ok (image_with gs start ps (a t).begin_at (a t).shapes (a t).count (b t).literals (b t).count))
