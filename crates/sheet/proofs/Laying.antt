-- Findings laid one after the other in a list:
--     Left                             what is left to be laid gives, from here, what all give from the beginning
--     all_left, none_left              at the beginning, and at the end
--     passed, put_one, laid_on         one that is not found, one that is put, several that a call has laid
--     laid_both                        what two calls have laid
--     free-at .. findings-end          what is left at a turn of each loop, and at its end
use mathlib.Core.Path.{◌≡◌, refl, sym, ap, ◌∙◌}
use mathlib.Core.Bool.{Bool, true, false, cond, not}
use mathlib.Core.List.{List, [], ◌∷◌, ◌++◌, map, append-nil, map-append}
use Prim.Native.Nat.{ℕ, suc, ◌+◌, ◌-◌, ◌<◌, ◌≤◌}
use native.Mathlib.Omega.{arith}
use native.Mathlib.Numerals.{add-one}
use lib.ListN.{length, get_or, drop, drop_of_length-le, length-append, length-map, set}
use lib.Seq.{sets, drop-cons}
use Rattle.words.specs.Words.{no_literals}
use Rattle.words.specs.LiteralSets.{has}
use Rattle.words.specs.declared.Literals.{Literals}
use Rattle.grammar.specs.Programs.{Program}
use Rattle.lemmas.specs.Lemmas.{Lemma}
use Rattle.sets.specs.Sets.{clashes}
use Rattle.gather.specs.Gathering.{successor_of, missing}
use Rattle.search.specs.Search.{Graph}
use Rattle.verdict.specs.Verdicts.{unless, findings_at, findings_from}
use Rattle.verdict.specs.declared.Finding.{Finding}
use Rattle.verdict.specs.declared.Finding.TheVariants.{Forbid}
use Rattle.std.specs.Option.{is_some}
use Rattle.sheet.specs.Sheets.{finding_word}
use Rattle.sheet.specs.Laying.{Laid, end_at, free, missed, offs}

sets_append : (l : List ℕ) (i : ℕ) (xs ys : List ℕ) → sets l i (xs ++ ys) ≡ sets (sets l i xs) (i + length xs) ys
sets_append l i [] ys = let e : i + 0 ≡ i = omega arith in rw e refl
sets_append l i (x ∷ xs) ys = let e : i + suc (length xs) ≡ suc i + length xs = omega arith in rw e (sets_append (set l i x) (suc i) xs ys)

-- of the findings fs from place i₀ of l₀ on, `rest` is left to be laid from place i of l on
pub record Left (fs : List Finding) (l₀ : List ℕ) (i₀ : ℕ) (l : List ℕ) (i : ℕ) (rest : List Finding) : Type 0 where
  pub places : i + length rest ≡ i₀ + length fs
  pub words : sets l i (map finding_word rest) ≡ sets l₀ i₀ (map finding_word fs)

pub all_left : (fs : List Finding) (l : List ℕ) (i : ℕ) → Left fs l i l i fs
all_left fs l i = record { places = refl; words = refl }

module _ {fs : List Finding} {l₀ : List ℕ} {i₀ : ℕ} {l : List ℕ} {i : ℕ} where
  pub none_left : Left fs l₀ i₀ l i [] → Laid fs l₀ i₀ l i
  none_left h = record { places = omega (arith, h.places); words = h.words }

  module _ (t : Bool) (f : Finding) (rest : List Finding) (h : Left fs l₀ i₀ l i (unless t f ++ rest)) where
    pub passed : t ≡ true → Left fs l₀ i₀ l i rest
    passed e = rw e at h

    pub put_one : t ≡ false → {w : ℕ} → w ≡ finding_word f → Left fs l₀ i₀ (set l i w) (i + 1) rest
    put_one e {w} is =
        let q : Left fs l₀ i₀ l i (f ∷ rest) = rw e at h in
        record { places = omega (arith, q.places); words = rw (is, add-one i) q.words }

  pub laid_on : (xs rest : List Finding) → Left fs l₀ i₀ l i (xs ++ rest) → {l' : List ℕ} {i' : ℕ} → Laid xs l i l' i' → Left fs l₀ i₀ l' i' rest
  laid_on xs rest h d =
      record {
        places = omega (arith, h.places, d.places, length-append xs rest);
        words =
            rw (d.places, d.words) (sym (sets_append l i (map finding_word xs) (map finding_word rest) ∙ ap (λ (n : ℕ). sets (sets l i (map finding_word xs)) (i + n) (map finding_word rest)) (length-map xs finding_word))
            ∙ ap (sets l i) (sym (map-append finding_word xs rest)) ∙ h.words);
      }

pub laid_both : (xs ys : List Finding) {l l' l'' : List ℕ} {i i' i'' : ℕ} → Laid xs l i l' i' → Laid ys l' i' l'' i'' → Laid (xs ++ ys) l i l'' i''
laid_both xs ys {l} {i = i} d e = none_left (laid_on ys [] (rw (append-nil ys) (laid_on xs ys (all_left (xs ++ ys) l i) d)) e)

-- ---- the loops
module _ (set k : ℕ) (cs : List Literals) (b : ℕ) where
  pub free-at : b < length cs → free set k b (drop b cs) ≡ unless (clashes (get_or cs b no_literals).0 set) (Forbid k b) ++ free set k (b + 1) (drop (b + 1) cs)
  unfolding free
  free-at h = rw (drop-cons cs b no_literals h, add-one b) refl

  pub free-end : length cs ≤ b → free set k b (drop b cs) ≡ []
  unfolding free
  free-end h = rw (drop_of_length-le cs {i = b} h) refl

module _ (m k j q : ℕ) where
  pub missed-at : q < 44 → missed m k j q (44 - q) ≡ unless (not (has q m)) (end_at k j q) ++ missed m k j (q + 1) (44 - (q + 1))
  unfolding missed
  missed-at h = let e : 44 - q ≡ suc (44 - (q + 1)) = omega arith in rw (e, add-one q) refl

  pub missed-end : 44 ≤ q → missed m k j q (44 - q) ≡ []
  unfolding missed
  missed-end h = let e : 44 - q ≡ 0 = omega arith in rw e refl

module _ (asked shown : List ℕ) (k n j : ℕ) where
  pub offs-at : j < n → offs asked shown k j (n - j) ≡ cond (is_some (successor_of (get_or shown j 0))) (missed (missing (get_or asked j 0) (get_or shown j 0)) k j 28 16) [] ++ offs asked shown k (j + 1) (n - (j + 1))
  unfolding offs
  offs-at h = let e : n - j ≡ suc (n - (j + 1)) = omega arith in rw (e, add-one j) refl

  pub offs-end : n ≤ j → offs asked shown k j (n - j) ≡ []
  unfolding offs
  offs-end h = let e : n - j ≡ 0 = omega arith in rw e refl

module _ (p : Program) (ls : List Lemma) (g : Graph) (nodes k : ℕ) where
  pub findings-at : k < nodes → findings_from p ls g k (nodes - k) ≡ findings_at p ls g k ++ findings_from p ls g (k + 1) (nodes - (k + 1))
  unfolding findings_from
  findings-at h = let e : nodes - k ≡ suc (nodes - (k + 1)) = omega arith in rw (e, add-one k) refl

  pub findings-end : nodes ≤ k → findings_from p ls g k (nodes - k) ≡ []
  unfolding findings_from
  findings-end h = let e : nodes - k ≡ 0 = omega arith in rw e refl
