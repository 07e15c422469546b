-- INIT or PRED with its rows, and the end.
use mathlib.Core.Path.{◌≡◌, refl, sym}
use mathlib.Core.Bool.{true}
use mathlib.Core.List.{List}
use Prim.Native.Nat.{ℕ, ◌≤◌, ◌<◌}
use lib.ListN.{length, get_or, drop, drop_of_length-le}
use lib.Seq.{drop-cons}
use borrow.Author.Tests.{leb-true}
use Rattle.std.specs.Prelude.{Result, Ok, Err}
use Rattle.words.specs.Words.{payload, END}
use Rattle.words.specs.declared.Refusal.{Refusal}
use Rattle.words.specs.declared.Refusal.TheVariants.{Word}
use Rattle.rows.specs.declared.Row.{Row}
use Rattle.grammar.specs.Reading.{got, one, always, times}
use Rattle.grammar.specs.Grammar.{row, rows, end}
use Rattle.grammar.proofs.ReadingLaws.{one_out, times-codec}
use Rattle.grammar.proofs.RowLaws.{row-codec}
use Rattle.grammar.proofs.ProgramLaws.{end_named, at_most}
use Rattle.reader.specs.Results.{next_of, rows_read}
use Rattle.reader.proofs.Laws.{err-out, ok-out, head-refused, head-at}
use Rattle.programs.specs.declared.Counted.{Counted}
use Rattle.programs.specs.Images.{counted_read}

-- ---- INIT or PRED
module _ (kind most vars : ℕ) (few : vars ≤ 8) (ws : List ℕ) (at : ℕ) where
  abbrev head : ℕ
  head = get_or ws at 0

  abbrev countWord : Result ℕ Refusal
  countWord = next_of (one kind (λ x. true) (λ x. at_most most head) (λ x. true) (drop at ws) at)

  abbrev countedAnswer : Result (Counted × ℕ) Refusal
  countedAnswer = counted_read (rows kind most vars (drop at ws) at)

  pub counted-refused : {r : Refusal} → Err r ≡ countWord → Err r ≡ countedAnswer
  unfolding rows
  counted-refused e = rw (head-refused kind always (at_most most) always ws at at _ e) refl

  module _ {i : ℕ} (e : Ok i ≡ countWord) where
    first : (at < length ws) × (i ≤ length ws) × (one kind always (at_most most) always (drop at ws) at ≡ got head (drop i ws) i)
    first = head-at kind always (at_most most) always ws at at i refl e

    pub count-within : i ≤ length ws
    count-within = first.1

    pub count-few : payload head ≤ most
    count-few = leb-true (payload head) most (one_out kind always (at_most most) always (drop at ws) at _ _ _ first.2).within-is

    pub counted-rows-refused : {r : Refusal} → Err r ≡ rows_read (times (payload head) (row vars) (drop i ws) i) → Err r ≡ countedAnswer
    unfolding rows
    counted-rows-refused f = rw (first.2, err-out _ _ f) refl

    pub counted-taken : {rs : List Row} {j : ℕ} → ◌≡◌ {A = Result (List Row × ℕ) Refusal} (Ok (rs, j)) (rows_read (times (payload head) (row vars) (drop i ws) i))
        → ◌≡◌ {A = Result (Counted × ℕ) Refusal} (Ok (record { rows = rs; count = payload head }, j)) countedAnswer
    unfolding rows
    counted-taken f =
        let (xs, us, n, q, p) = ok-out _ _ f in
        let many : payload head ≡ length xs = sym ((times-codec (row-codec vars few) (payload head)).out (drop i ws) i xs us n q).good.0 in
        rw (first.2, q) (λ t. Ok (record { rows = (p t).0; count = many t }, (p t).1))

-- ---- the end
module _ (ws : List ℕ) (at : ℕ) where
  abbrev endWord : Result ℕ Refusal
  endWord = next_of (one END (λ x. end_named (get_or ws at 0)) (λ x. true) (λ x. true) (drop at ws) at)

  abbrev endAnswer : Result ℕ Refusal
  endAnswer = next_of (end (drop at ws) at)

  pub end-refused : {r : Refusal} → Err r ≡ endWord → Err r ≡ endAnswer
  unfolding end
  end-refused e = rw (head-refused END end_named always always ws at at _ e) refl

  module _ {i : ℕ} (e : Ok i ≡ endWord) where
    first-end : one END end_named always always (drop at ws) at ≡ got (get_or ws at 0) (drop i ws) i
    first-end = (head-at END end_named always always ws at at i refl e).2

    pub end-more : i < length ws → Err (Word i) ≡ endAnswer
    unfolding end
    end-more h = rw (first-end, drop-cons ws i 0 h) refl

    pub end-reached : length ws ≤ i → Ok i ≡ endAnswer
    unfolding end
    end-reached h = rw (first-end, drop_of_length-le ws {i = i} h) refl
