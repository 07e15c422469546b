-- The sum of a lemma's rows: how large its numbers are, one turn of each loop, and that it is `combine` of the rows. Assumes nothing.
use mathlib.Core.Path.{◌≡◌, refl, sym, ap, ◌∙◌}
use mathlib.Core.Bool.{Bool, true, false}
use mathlib.Core.List.{List, [], ◌∷◌, ◌++◌, map}
use Prim.Native.Nat.{ℕ, ◌+◌, ◌*◌, ◌<◌, ◌≤◌}
use native.Mathlib.Numerals.{add-one}
use native.Mathlib.Omega.{arith}
use lib.IntN.{ℤ, pos}
use lib.ListN.{length, get_or, drop, drop_of_length-le, length-append}
use lib.Seq.{drop-cons}
use Rattle.integers.proofs.Int.{up, dn}
use Rattle.integers.proofs.Laws.{Within, within_out, zero-within}
use Rattle.rows.specs.declared.Row.{Row}
use Rattle.rows.specs.Rows.{negated}
use Rattle.rows.specs.Bounds.{Small, Room, Read, no_row}
use Rattle.rows.proofs.Laws.{room_weaken}
use Rattle.words.specs.LiteralSets.{has}
use Rattle.runs.specs.Values.{row_if, premise_rows}
use Rattle.sums.specs.Sums.{combine, const_row}
use Rattle.sums.specs.Fits.{RowFits, Single, After}
use Rattle.sums.proofs.Room.{room_plus, room-negated, room-const, row_fits, read_single}
use Rattle.acceptance.specs.declared.Sum.{Sum}
use Rattle.acceptance.specs.Adding.{mult_of, add_row, add_rows, goal_rows, Fine}
use Rattle.std.specs.Prelude.{Option, Some, None}

-- ---- the numbers
mult_within : (w : ℕ) → Within 65535 (mult_of w)
unfolding up dn
mult_within w = within_out 65535 (mult_of w) (omega arith) (omega arith)

pub fine-small : {r : Row} → Fine 42 r → Small r
fine-small h = room_weaken (omega arith) (omega arith) h

fine_weaken : (j k : ℕ) {r : Row} → j ≤ k → Fine j r → Fine k r
fine_weaken j k h f = room_weaken (omega arith) (omega arith) f

module _ (ws : List ℕ) (t : Sum) (r : Row) where
  fine-fits : (k : ℕ) → k ≤ 42 → Fine k t.row → Single r → RowFits t.row (mult_of (get_or ws t.used 0)) r
  fine-fits k l f h = row_fits (omega arith) (omega arith) (mult_within (get_or ws t.used 0)) f h

  fine-next : (k : ℕ) → Fine k t.row → Single r → Fine (k + 1) (add_row ws t r).row
  fine-next k f h = room_weaken (omega arith) (omega arith) (room_plus (mult_within (get_or ws t.used 0)) f h)

  fine-if : (k : ℕ) (b : Bool) → Fine k t.row → Single r → Fine (k + 1) (add_rows ws t (row_if b r)).row
  unfolding add_rows
  fine-if k true f h = fine-next k f h
  fine-if k false f h = fine_weaken k (k + 1) (omega arith) f

  -- the goal's row, before any other
  pub goal-fits : Room 0 0 t.row → After r → RowFits t.row (mult_of (get_or ws t.used 0)) r
  goal-fits z h = row_fits (omega arith) (omega arith) (mult_within (get_or ws t.used 0)) z h

  goal-fine : Room 0 0 t.row → After r → Fine 0 (add_row ws t r).row
  goal-fine z h = room_weaken (omega arith) (omega arith) (room_plus (mult_within (get_or ws t.used 0)) z h)

-- ---- some rows more
rows_append : (ws : List ℕ) (t : Sum) (xs ys : List Row) → add_rows ws t (xs ++ ys) ≡ add_rows ws (add_rows ws t xs) ys
unfolding add_rows
rows_append ws t [] ys = refl
rows_append ws t (x ∷ xs) ys = rows_append ws (add_row ws t x) xs ys

rows_used : (ws : List ℕ) (t : Sum) (rs : List Row) → (add_rows ws t rs).used ≡ t.used + length rs
unfolding add_rows
rows_used ws t [] = omega arith
rows_used ws t (r ∷ rs) = rows_used ws (add_row ws t r) rs ∙ omega arith

combine-none : (s : Row) (ks : List ℤ) → combine s ks [] ≡ s
unfolding combine
combine-none s [] = refl
combine-none s (k ∷ ks) = refl

-- the numbers are those of the MULT words from the first one on
rows-combine : (ws : List ℕ) (t : Sum) (rs : List Row) → t.used + length rs ≤ length ws
    → (add_rows ws t rs).row ≡ combine t.row (map mult_of (drop t.used ws)) rs
unfolding add_rows combine
rows-combine ws t [] h = sym (combine-none t.row (map mult_of (drop t.used ws)))
rows-combine ws t (r ∷ rs) h =
    rows-combine ws (add_row ws t r) rs (omega arith) ∙ rw (add-one t.used, drop-cons ws t.used 0 (omega arith)) refl

-- what `add_if` asks
abbrev Asked : List ℕ → Sum → Bool → Row → Type 0
Asked ws t b r = (t.used + length (row_if b r) ≤ length ws) × RowFits t.row (mult_of (get_or ws t.used 0)) r

-- ---- the loop over rows: the first i are added
pub record Added (ws : List ℕ) (t : Sum) (rs : List Row) (i : ℕ) (s : Sum) : Type 0 where
  pub rest : add_rows ws s (drop i rs) ≡ add_rows ws t rs
  pub fine : Fine (28 + i) s.row

-- one turn: r is added
pub record RowTurn (ws : List ℕ) (t : Sum) (rs : List Row) (i : ℕ) (s : Sum) (r : Row) : Type 0 where
  pub asked : (s.used < length ws) × RowFits s.row (mult_of (get_or ws s.used 0)) r
  pub next : Added ws t rs (i + 1) (add_row ws s r)

module _ (ws : List ℕ) (t : Sum) (rs : List Row) (i : ℕ) (s : Sum) (P : Added ws t rs i s) where
  pub row-turn : ((j : ℕ) → Read (get_or rs j no_row)) → i < length rs → length rs ≤ 8 → t.used + length rs ≤ length ws → RowTurn ws t rs i s (get_or rs i no_row)
  unfolding add_rows
  row-turn each l few room =
      let r = get_or rs i no_row in
      let h = each i in
      let here : drop i rs ≡ r ∷ drop (i + 1) rs = rw (add-one i) (drop-cons rs i no_row l) in
      let used = ap (λ (x : Sum). x.used) P.rest in
      record {
        asked = (
          omega (arith, rows_used ws s (drop i rs), rows_used ws t rs, ap length here),
          fine-fits ws s r (28 + i) (omega arith) P.fine (read_single h),
        );
        next = record {
          rest = rw here at P.rest;
          fine = fine_weaken (28 + i + 1) (28 + (i + 1)) (omega arith) (fine-next ws s r (28 + i) P.fine (read_single h));
        };
      }

  pub added-all : length rs ≤ i → i ≤ length rs → length rs ≤ 8 → (s ≡ add_rows ws t rs) × Fine 42 s.row
  unfolding add_rows
  added-all l h few = (rw (drop_of_length-le rs {i = i} l) at P.rest, fine_weaken (28 + i) 42 (omega arith) P.fine)

-- ---- the loop over predicates: the literals of those below p are added
pub record Premised (ws : List ℕ) (t : Sum) (ps : List Row) (set p : ℕ) (s : Sum) : Type 0 where
  pub rest : add_rows ws s (premise_rows p (drop p ps) set) ≡ add_rows ws t (premise_rows 0 ps set)
  pub fine : Fine (2 * p) s.row

-- one turn: the literals of the predicate r are added
pub record LiteralTurn (ws : List ℕ) (t : Sum) (ps : List Row) (set p : ℕ) (s : Sum) (r : Row) : Type 0 where
  pub first : Asked ws s (has p set) r
  pub second : Asked ws (add_rows ws s (row_if (has p set) r)) (has (14 + p) set) (negated r)
  pub next : Premised ws t ps set (p + 1) (add_rows ws (add_rows ws s (row_if (has p set) r)) (row_if (has (14 + p) set) (negated r)))

module _ (ws : List ℕ) (t : Sum) (ps : List Row) (set p : ℕ) (s : Sum) (P : Premised ws t ps set p s) where
  two-more : (r : Row) → get_or ps p no_row ≡ r → p < length ps
      → add_rows ws (add_rows ws (add_rows ws s (row_if (has p set) r)) (row_if (has (14 + p) set) (negated r))) (premise_rows (p + 1) (drop (p + 1) ps) set) ≡ add_rows ws t (premise_rows 0 ps set)
  unfolding premise_rows
  two-more r e l =
      let xs = row_if (has p set) r in
      let ys = row_if (has (14 + p) set) (negated r) in
      let zs = premise_rows (p + 1) (drop (p + 1) ps) set in
      let these : premise_rows p (drop p ps) set ≡ xs ++ (ys ++ zs) = rw (add-one p, ← e, drop-cons ps p no_row l) refl in
      sym (rows_append ws (add_rows ws s xs) ys zs) ∙ sym (rows_append ws s xs (ys ++ zs)) ∙ rw these at P.rest

  pub literal-turn : ((j : ℕ) → Read (get_or ps j no_row)) → p < length ps → length ps ≤ 14 → t.used + length (premise_rows 0 ps set) ≤ length ws
      → LiteralTurn ws t ps set p s (get_or ps p no_row)
  literal-turn each l few room =
      let r = get_or ps p no_row in
      let h = each p in
      let xs = row_if (has p set) r in
      let ys = row_if (has (14 + p) set) (negated r) in
      let zs = premise_rows (p + 1) (drop (p + 1) ps) set in
      let half = add_rows ws s xs in
      let more = two-more r refl l in
      let used = ap (λ (x : Sum). x.used) more in
      let a = rows_used ws s xs in
      let b = rows_used ws half ys in
      let d = rows_used ws (add_rows ws half ys) zs in
      let g = rows_used ws t (premise_rows 0 ps set) in
      let f = fine-if ws s r (2 * p) (has p set) P.fine (read_single h) in
      let k = fine-if ws half (negated r) (2 * p + 1) (has (14 + p) set) f (room-negated r h) in
      record {
        first = (omega arith, fine-fits ws s r (2 * p) (omega arith) P.fine (read_single h));
        second = (omega arith, fine-fits ws half (negated r) (2 * p + 1) (omega arith) f (room-negated r h));
        next = record { rest = more; fine = fine_weaken (2 * p + 1 + 1) (2 * (p + 1)) (omega arith) k };
      }

  pub premised-all : length ps ≤ p → p ≤ length ps → length ps ≤ 14 → (s ≡ add_rows ws t (premise_rows 0 ps set)) × Fine 28 s.row
  unfolding add_rows premise_rows
  premised-all l h few = (rw (drop_of_length-le ps {i = p} l) at P.rest, fine_weaken (2 * p) 28 (omega arith) P.fine)

-- ---- the three parts of a lemma's sum, one behind the other
abbrev pub nothing : Sum
nothing = record { row = const_row (pos 0); used = 0 }

pub nothing-room : Room 0 0 (const_row (pos 0))
nothing-room = room-const (pos 0) (zero-within 0)

-- the goal's row is added, if there is a goal
pub record GoalAdded (ws : List ℕ) (goal : Option Row) (s : Sum) : Type 0 where
  pub is : s ≡ add_rows ws nothing (goal_rows goal)
  pub fine : Fine 0 s.row

pub goal-added : (ws : List ℕ) (q : Row) → After q → GoalAdded ws (Some q) (add_row ws nothing q)
unfolding add_rows
goal-added ws q h = record { is = refl; fine = goal-fine ws nothing q nothing-room h }

pub goal-none : (ws : List ℕ) → GoalAdded ws None nothing
unfolding add_rows
goal-none ws = record { is = refl; fine = room_weaken (omega arith) (omega arith) nothing-room }

used-then : (ws : List ℕ) (t : Sum) (rs : List Row) {s : Sum} → s ≡ add_rows ws t rs → s.used ≡ t.used + length rs
used-then ws t rs e = ap (λ (x : Sum). x.used) e ∙ rows_used ws t rs

module _ (ws : List ℕ) (xs ys zs : List Row) (room : length (xs ++ (ys ++ zs)) ≤ length ws) {t : Sum} (et : t ≡ add_rows ws nothing xs) where
  parts : (length (xs ++ (ys ++ zs)) ≡ length xs + (length ys + length zs)) × (t.used ≡ length xs)
  parts = (length-append xs (ys ++ zs) ∙ ap (λ (n : ℕ). length xs + n) (length-append ys zs), omega (arith, used-then ws nothing xs et))

  pub second-room : t.used + length ys ≤ length ws
  second-room = omega (arith, parts.0, parts.1)

  module _ {u : Sum} (eu : u ≡ add_rows ws t ys) where
    pub third-room : u.used + length zs ≤ length ws
    third-room = omega (arith, parts.0, parts.1, used-then ws t ys eu)

    pub whole_sum : {s : Sum} → s ≡ add_rows ws u zs → s.row ≡ combine (const_row (pos 0)) (map mult_of ws) (xs ++ (ys ++ zs))
    whole_sum {s} es =
        let e : s ≡ add_rows ws nothing (xs ++ (ys ++ zs)) =
        es ∙ rw (eu, et) (sym (rows_append ws nothing xs (ys ++ zs) ∙ rows_append ws (add_rows ws nothing xs) ys zs)) in
        ap (λ (x : Sum). x.row) e ∙ rows-combine ws nothing (xs ++ (ys ++ zs)) (omega arith)
