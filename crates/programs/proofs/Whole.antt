-- A program from its ranges, start rows, predicates and the rest.
use mathlib.Core.Path.{◌≡◌, refl, sym, ap, subst, ◌∙◌}
use mathlib.Core.List.{List, ◌++◌}
use Prim.Native.Nat.{ℕ}
use native.Mathlib.Omega.{arith}
use lib.ListN.{length, drop, length-append}
use lib.Seq.{sets}
use Rattle.words.specs.Words.{INIT, PRED, ACTION, SETS}
use Rattle.words.specs.declared.Refusal.{Refusal}
use Rattle.words.specs.declared.Literals.{Literals}
use Rattle.rows.specs.declared.Range.{Range}
use Rattle.rows.specs.declared.Row.{Row}
use Rattle.grammar.specs.Reading.{Read, got, refused, pure, after, many}
use Rattle.grammar.specs.Programs.{Action, Program}
use Rattle.grammar.specs.Grammar.{ranges, rows, action, combination, end, program}
use Rattle.grammar.specs.Encoding.{concat, encode_range, encode_rows}
use Rattle.reader.specs.Results.{zero_rows}
use Rattle.programs.specs.declared.Ranges.{Ranges}
use Rattle.programs.specs.declared.Counted.{Counted}
use Rattle.programs.specs.Images.{zero_ranges, loaded, Rest, rest, rest_loaded}
use Rattle.programs.proofs.Stages.{RangesAt, CountedAt}

abbrev program_of : List Range → List Row → List Row → Rest → Program
program_of gs start ps r = record { ranges = gs; start = start; predicates = ps; actions = r.actions; forbidden = r.forbidden }

-- the rest, read apart and then put behind
module _ (gs : List Range) (start ps : List Row) where
  end_same : (xs : List Action) (ls : List Literals) (m : Read ℕ)
      → after m (λ e. pure (program_of gs start ps (record { actions = xs; forbidden = ls }))) ≡ after (after m (λ e. pure (record { actions = xs; forbidden = ls }))) (λ r. pure (program_of gs start ps r))
  end_same xs ls (got e us k) = refl
  end_same xs ls (refused x) = refl

  forbidden-same : (xs : List Action) (m : Read (List Literals)) → after m (λ ls us k. after (end us k) (λ e. pure (program_of gs start ps (record { actions = xs; forbidden = ls }))))
      ≡ after (after m (λ ls us k. after (end us k) (λ e. pure (record { actions = xs; forbidden = ls })))) (λ r. pure (program_of gs start ps r))
  forbidden-same xs (got ls us k) = end_same xs ls (end us k)
  forbidden-same xs (refused x) = refl

  actions-same : (n : ℕ) (m : Read (List Action))
      → after m (λ xs us k. after (many SETS (combination n) 8 us k) (λ ls us' k'. after (end us' k') (λ e. pure (program_of gs start ps (record { actions = xs; forbidden = ls })))))
      ≡ after (after m (λ xs us k. after (many SETS (combination n) 8 us k) (λ ls us' k'. after (end us' k') (λ e. pure (record { actions = xs; forbidden = ls }))))) (λ r. pure (program_of gs start ps r))
  actions-same n (got xs us k) = forbidden-same xs (many SETS (combination n) 8 us k)
  actions-same n (refused x) = refl

module _ (ws : List ℕ) where
  pub stop-at-ranges : {r : Refusal} → ranges ws 0 ≡ refused r → program ws 0 ≡ refused r
  unfolding program
  stop-at-ranges e = rw e refl

  module _ {gs : List Range} {u₁ : List ℕ} {j₁ : ℕ} (e₁ : ranges ws 0 ≡ got gs u₁ j₁) where
    stop-at-start : {r : Refusal} → rows INIT 8 (length gs) u₁ j₁ ≡ refused r → program ws 0 ≡ refused r
    unfolding program
    stop-at-start e = rw (e₁, e) refl

    module _ {start : List Row} {u₂ : List ℕ} {j₂ : ℕ} (e₂ : rows INIT 8 (length gs) u₁ j₁ ≡ got start u₂ j₂) where
      stop-at-predicates : {r : Refusal} → rows PRED 14 (length gs) u₂ j₂ ≡ refused r → program ws 0 ≡ refused r
      unfolding program
      stop-at-predicates e = rw (e₁, e₂, e) refl

      all-parts : {ps : List Row} {u₃ : List ℕ} {j₃ : ℕ} → rows PRED 14 (length gs) u₂ j₂ ≡ got ps u₃ j₃
          → program ws 0 ≡ after (rest (length gs) (length ps) u₃ j₃) (λ r. pure (program_of gs start ps r))
      unfolding program rest
      all-parts {ps} {u₃} {j₃} e₃ = rw (e₁, e₂, e₃) (actions-same gs start ps (length ps) (many ACTION (action (length gs)) 16 u₃ j₃))

-- the image of the parts is the image of the program
rest-is : (x : Ranges) (y z : Counted) (gs : List Range) (start ps : List Row) (at : ℕ) (m : Read Rest) → x.ranges ≡ sets zero_ranges 0 gs → x.count ≡ length gs
    → y.rows ≡ sets zero_rows 0 start → y.count ≡ length start → z.rows ≡ sets zero_rows 0 ps → z.count ≡ length ps
    → at ≡ length (concat encode_range gs ++ encode_rows INIT start ++ encode_rows PRED ps)
    → rest_loaded x y z m at ≡ loaded (after m (λ r. pure (program_of gs start ps r)))
rest-is x y z gs start ps at (got r us i) a b c d e f g =
    λ t. rest_loaded (record { ranges = a t; count = b t }) (record { rows = c t; count = d t }) (record { rows = e t; count = f t }) (got r us i) (g t)
rest-is x y z gs start ps at (refused q) a b c d e f g = refl

-- as many variables as ranges
recounted : (kind most : ℕ) (us : List ℕ) (j : ℕ) {n m : ℕ} {q : Read (List Row)} → n ≡ m → rows kind most n us j ≡ q → rows kind most m us j ≡ q
recounted kind most us j {q = q} e h = subst (λ (k : ℕ). rows kind most k us j ≡ q) e h

module _ (ws : List ℕ) {x : Ranges} {j₁ : ℕ} {gs : List Range} (a : RangesAt ws x j₁ gs) where
  pub start-refused : {r : Refusal} → rows INIT 8 x.count (drop j₁ ws) j₁ ≡ refused r → program ws 0 ≡ refused r
  start-refused e = stop-at-start ws a.taken (recounted INIT 8 (drop j₁ ws) j₁ a.counted e)

  pub predicates-refused : {y : Counted} {j₂ : ℕ} {start : List Row} {r : Refusal} → CountedAt ws INIT 8 x.count j₁ y j₂ start
      → rows PRED 14 x.count (drop j₂ ws) j₂ ≡ refused r → program ws 0 ≡ refused r
  predicates-refused {j₂ = j₂} b e = stop-at-predicates ws a.taken (recounted INIT 8 (drop j₁ ws) j₁ a.counted b.taken) (recounted PRED 14 (drop j₂ ws) j₂ a.counted e)

pub load_is : (ws : List ℕ) {x : Ranges} {y z : Counted} {j₁ j₂ j₃ : ℕ} {gs : List Range} {start ps : List Row} → RangesAt ws x j₁ gs → CountedAt ws INIT 8 x.count j₁ y j₂ start
    → CountedAt ws PRED 14 x.count j₂ z j₃ ps → rest_loaded x y z (rest x.count z.count (drop j₃ ws) j₃) j₃ ≡ loaded (program ws 0)
load_is ws {x} {y} {z} {j₁} {j₂} {j₃} {gs} {start} {ps} a b c =
    let whole = all-parts ws a.taken (recounted INIT 8 (drop j₁ ws) j₁ a.counted b.taken) (recounted PRED 14 (drop j₂ ws) j₂ a.counted c.taken) in
    let m = rest (length gs) (length ps) (drop j₃ ws) j₃ in
    let l₁ = length-append (concat encode_range gs ++ encode_rows INIT start) (encode_rows PRED ps) in
    let l₂ = length-append (concat encode_range gs) (encode_rows INIT start) in
    let place : j₃ ≡ length (concat encode_range gs ++ encode_rows INIT start ++ encode_rows PRED ps) = omega (arith, a.place, b.place, c.place) in
    let same : rest x.count z.count (drop j₃ ws) j₃ ≡ m = λ t. rest (a.counted t) (c.counted t) (drop j₃ ws) j₃ in
    ap (λ (q : Read Rest). rest_loaded x y z q j₃) same ∙ rest-is x y z gs start ps j₃ m a.stored a.counted b.stored b.counted c.stored c.counted place ∙ ap loaded (sym whole)
