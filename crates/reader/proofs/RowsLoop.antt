-- Rows one after the other.
use mathlib.Core.Path.{◌≡◌, refl, sym, ap, ◌∙◌}
use mathlib.Core.List.{List, ◌∷◌}
use Prim.Native.Nat.{ℕ, suc, ◌+◌, ◌-◌, ◌≤◌, ◌<◌}
use native.Mathlib.Omega.{arith}
use native.Mathlib.Numerals.{add-one}
use native.Mathlib.Nat.{sub-zero}
use lib.ListN.{length, set, drop, length-append, length-drop}
use lib.Seq.{drop-append_seam, drop-drop}
use Rattle.std.specs.Prelude.{Result, Ok, Err}
use Rattle.words.specs.declared.Refusal.{Refusal}
use Rattle.rows.specs.declared.Row.{Row}
use Rattle.grammar.specs.Reading.{Read, got, refused, after, pure, times}
use Rattle.grammar.specs.Grammar.{row}
use Rattle.grammar.proofs.ReadingLaws.{Taken}
use Rattle.grammar.proofs.RowLaws.{row-codec}
use Rattle.reader.specs.Results.{row_read, rows_from, rows_read, zero_rows}
use Rattle.reader.proofs.Laws.{err-out, pair-out}

-- what was read behind an index leaves the words from the next index on
module _ {A : Type 0} {e : A → List ℕ} {P : A → Type 0} (ws : List ℕ) {i j : ℕ} {a : A} {vs : List ℕ} (l : i ≤ length ws) (t : Taken e P (drop i ws) i a vs j) where
  pub left_is : vs ≡ drop j ws
  left_is =
      let h : drop (length (e a)) (drop i ws) ≡ vs = rw t.words (drop-append_seam (e a) vs) in
      sym h ∙ drop-drop (length (e a)) i ws ∙ ap (λ (n : ℕ). drop n ws) (sym t.place)

  pub left-within : j ≤ length ws
  left-within = omega (arith, t.place, length-drop i ws, length-append (e a) vs, ap length t.words)

-- ---- the loop over n rows: k rows are stored, and the words from i on are left
pub record RowsLoop (ws : List ℕ) (at n vars : ℕ) (rs : List Row) (i k : ℕ) : Type 0 where
  pub few : k ≤ n
  pub here : i ≤ length ws
  pub same : rows_from rs k (times (n - k) (row vars) (drop i ws) i) ≡ rows_read (times n (row vars) (drop at ws) at)

rows_more : (rs : List Row) (k : ℕ) (r : Row) (m : Read (List Row)) → rows_from rs k (after m (λ xs. pure (r ∷ xs))) ≡ rows_from (set rs k r) (suc k) m
rows_more rs k r (got xs ws i) = refl
rows_more rs k r (refused x) = refl

module _ (ws : List ℕ) (at n vars : ℕ) (room : vars ≤ 8) where
  pub rows-begun : at ≤ length ws → RowsLoop ws at n vars zero_rows at 0
  rows-begun h = record { few = omega arith; here = h; same = rw (sub-zero n) refl }

  module _ {rs : List Row} {i k : ℕ} (t : RowsLoop ws at n vars rs i k) where
    step : k < n → n - k ≡ suc (n - suc k)
    step h = omega arith

    pub rows-refused : k < n → {r : Refusal} → Err r ≡ row_read (row vars (drop i ws) i) → Err r ≡ rows_read (times n (row vars) (drop at ws) at)
    unfolding times
    rows-refused h e = rw (← t.same, step h, err-out (λ r i. (r, i)) _ e) refl

    pub rows-turn : k < n → {r : Row} {j : ℕ} → ◌≡◌ {A = Result (Row × ℕ) Refusal} (Ok (r, j)) (row_read (row vars (drop i ws) i)) → RowsLoop ws at n vars (set rs k r) j (k + 1)
    unfolding times
    rows-turn h {r} {j} q =
        let (us, e) = pair-out _ q in
        let o = (row-codec vars room).out (drop i ws) i r us j e in
        let rest = left_is ws t.here o in
        record {
          few = omega arith;
          here = left-within ws t.here o;
          same = rw (add-one k, ← t.same, step h, e, rest) (sym (rows_more rs k r (times (n - suc k) (row vars) (drop j ws) j)));
        }

    pub rows-ended : n ≤ k → Ok (rs, i) ≡ rows_read (times n (row vars) (drop at ws) at)
    unfolding times
    rows-ended h = let none : n - k ≡ 0 = omega arith in rw (← t.same, none) refl
