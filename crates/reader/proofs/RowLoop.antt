-- The loop that feeds a row's words to the steps.
use mathlib.Core.Path.{◌≡◌, sym, ap, ◌∙◌}
use mathlib.Core.List.{List, [], ◌∷◌}
use Prim.Native.Nat.{ℕ, suc, ◌+◌, ◌≤◌, ◌<◌}
use native.Mathlib.Omega.{arith}
use native.Mathlib.Numerals.{add-one}
use lib.IntN.{ℤ}
use lib.ListN.{length, get_or, drop, drop_of_length-le}
use lib.Seq.{drop-cons}
use Rattle.std.specs.Prelude.{Option, Some, None, Ok, Err}
use Rattle.words.specs.declared.Refusal.{Refusal}
use Rattle.words.specs.declared.Refusal.TheVariants.{Word as Missing}
use Rattle.grammar.specs.Reading.{refused}
use Rattle.feed.specs.declared.Said.{Said}
use Rattle.feed.specs.declared.Said.TheVariants.{GoOn, Complete}
use Rattle.feed.specs.declared.Kept.{Kept}
use Rattle.feed.specs.declared.Answer.{Answer}
use Rattle.feed.specs.Steps.{Step, place, told, row_step, fed, begun}
use Rattle.feed.specs.Answers.{held, stepped}
use Rattle.feed.proofs.Laws as steps
use Rattle.reader.specs.Results.{row_read}

-- ---- the loop: i words were fed
pub record RowLoop (ws : List ℕ) (base vars : ℕ) (k : Kept) (c : List ℤ) (i : ℕ) : Type 0 where
  pub here : i ≤ length ws
  pub known : k.vars ≡ vars
  pub begins : k.from ≡ base
  pub taken : k.taken ≤ i
  pub same : fed (held k c) (drop i ws) ≡ fed (begun vars base) ws

module _ (ws : List ℕ) (base vars : ℕ) where
  module _ {k : Kept} {c : List ℤ} {i : ℕ} (t : RowLoop ws base vars k c i) (a : Answer) (d : List ℤ) where
    pub row_near : (f : Option ℕ) → stepped a d ≡ row_step (held k c) f → place a.kept ≤ base + i + 1
    row_near f e =
        let (v, b, n) = steps.steps-near k c f in
        let kept-is = ap (λ (s : Step). s.held.kept) e in
        omega (arith, ap (λ (x : Kept). x.from) kept-is, ap (λ (x : Kept). x.taken) kept-is, b, n, t.begins, t.taken)

    module _ (more : i < length ws) (e : stepped a d ≡ row_step (held k c) (Some (get_or ws i 0))) where
      -- the steps from here on, by this one
      by-step : fed (begun vars base) ws ≡ told a.said (held a.kept d) (drop i ws) (fed (held a.kept d) (drop (i + 1) ws))
      unfolding fed
      by-step =
          sym t.same ∙ rw (drop-cons ws i 0 more, add-one i)
          (ap (λ (s : Step). told s.said s.held (get_or ws i 0 ∷ drop (suc i) ws) (fed s.held (drop (suc i) ws))) (sym e))

      pub row-turn : a.said ≡ Ok GoOn → RowLoop ws base vars a.kept d (i + 1)
      row-turn g =
          let (v, f, n) = steps.steps-near k c (Some (get_or ws i 0)) in
          let kept-is = ap (λ (s : Step). s.held.kept) e in
          record {
            here = omega arith;
            known = ap (λ (x : Kept). x.vars) kept-is ∙ v ∙ t.known;
            begins = ap (λ (x : Kept). x.from) kept-is ∙ f ∙ t.begins;
            taken = omega (arith, ap (λ (x : Kept). x.taken) kept-is, n, t.taken);
            same = rw g at (sym by-step);
          }

      -- a word completes the row, and is among those that are left
      pub row-complete : a.said ≡ Ok Complete → Ok (record { coef = d; constant = a.kept.constant }, place a.kept) ≡ row_read (fed (begun vars base) ws)
      row-complete g = ap row_read (sym (rw g at by-step))

      pub row-refused : {r : Refusal} → a.said ≡ Err r → Err r ≡ row_read (fed (begun vars base) ws)
      row-refused g = ap row_read (sym (rw g at by-step))

    -- the end decides
    module _ (l : length ws ≤ i) (e : stepped a d ≡ row_step (held k c) None) where
      by-end : fed (begun vars base) ws ≡ told a.said (held a.kept d) [] (refused (Missing (place a.kept)))
      unfolding fed
      by-end =
          sym t.same ∙ rw (drop_of_length-le ws l) (ap (λ (s : Step). told s.said s.held [] (refused (Missing (place s.held.kept)))) (sym e))

      pub end-refused : {r : Refusal} → a.said ≡ Err r → Err r ≡ row_read (fed (begun vars base) ws)
      end-refused g = ap row_read (sym (rw g at by-end))

      -- it leaves the record as it is, and does not go on
      pub end-complete : {x : Said} → a.said ≡ Ok x → Ok (record { coef = d; constant = k.constant }, place k) ≡ row_read (fed (begun vars base) ws)
      end-complete g =
          let q = e ∙ steps.end-complete (held k c) (sym (ap (λ (s : Step). s.said) e) ∙ g) in
          let done : a.said ≡ Ok Complete = ap (λ (s : Step). s.said) q in
          let same : k ≡ a.kept = sym (ap (λ (s : Step). s.held.kept) q) in
          (λ x. Ok (record { coef = d; constant = (same x).constant }, place (same x))) ∙ ap row_read (sym (rw done at by-end))
