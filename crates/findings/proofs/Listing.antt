-- All findings of a graph in a list: what two passes of laying come to.
--     graph-kept           the graph list stays as it is
--     too_short            they do not fit
--     none-laid, all_laid  none, and some that fit, in a list that was cleared
use mathlib.Core.Path.{◌≡◌, refl, ap, ◌∙◌}
use mathlib.Core.Bool.{Bool, true, false, cond}
use mathlib.Core.List.{List, [], ◌∷◌, ◌++◌, map}
use Prim.Native.Nat.{ℕ, zero, suc, ◌+◌, ◌-◌, ◌<◌, ◌≤◌}
use native.Mathlib.Omega.{arith}
use lib.Dec.{ltb}
use lib.ListN.{length, drop, replicate, length-map, length-replicate}
use lib.Seq.{sets, sets-eq}
use borrow.Author.Tests.{lt-ltb, le-ltb}
use Rattle.words.specs.declared.Refusal.TheVariants.{Findings}
use Rattle.verdict.specs.declared.Finding.{Finding}
use Rattle.sheet.specs.Sheets.{finding_word}
use Rattle.sheet.specs.Laying.{Laid}
use Rattle.findings.specs.Calls.{keep, list_all}
use Rattle.std.specs.Prelude.{Result, Ok, Err}
use Rattle.words.specs.declared.Refusal.{Refusal}

drop-zeros : (k m : ℕ) → drop {A = ℕ} k (replicate m 0) ≡ replicate (m - k) 0
drop-zeros zero m = let e : m - 0 ≡ m = omega arith in rw e refl
drop-zeros (suc k) zero = let e : 0 - suc k ≡ 0 = omega arith in rw e refl
drop-zeros (suc k) (suc m) = let e : suc m - suc k ≡ m - k = omega arith in rw e (drop-zeros k m)

module _ (fs : List Finding) (gl fl : List ℕ) where
  -- an answer and a findings list are those of all findings listed
  abbrev pub Lists : Result ℕ Refusal → List ℕ → Type 0
  Lists r fl' = (r ≡ (list_all fs gl fl).answer) × (fl' ≡ (list_all fs gl fl).list)

  pub graph-kept : (list_all fs gl fl).graph ≡ gl
  graph-kept = go (ltb (length fl) (length fs))
    where
      go : (t : Bool) → (cond t (keep (Err (Findings (length fs))) gl fl)
          (record { answer = Ok (length fs); graph = gl; list = map finding_word fs ++ replicate (length fl - length fs) 0 })).graph ≡ gl
      go true = refl
      go false = refl

  module _ {l l' : List ℕ} {n : ℕ} (counted : Laid fs l 0 l' n) where
    same : n ≡ length fs
    same = omega (arith, counted.places)

    pub too_short : length fl < n → Lists (Err (Findings n)) fl
    too_short h = let e = lt-ltb (length fl) (length fs) (omega (arith, h, same)) in (rw (e, same) refl, rw e refl)

    module _ (h : n ≤ length fl) {l'' : List ℕ} (zeros : l'' ≡ replicate (length fl) 0) where
      laid : sets l'' 0 (map finding_word fs) ≡ map finding_word fs ++ replicate (length fl - length fs) 0
      laid =
          let words : length (map finding_word fs) ≡ length fs = length-map fs finding_word in
          let taken : 0 + length (map finding_word fs) ≡ length fs = omega (arith, words) in
          let room : 0 + length (map finding_word fs) ≤ length {A = ℕ} (replicate (length fl) 0) = rw (words, length-replicate {A = ℕ} (length fl) 0) (omega (arith, h, same)) in
          rw zeros (sets-eq (map finding_word fs) (replicate (length fl) 0) 0 room)
          ∙ ap (λ (k : ℕ). map finding_word fs ++ drop k (replicate (length fl) 0)) taken ∙ ap (λ (r : List ℕ). map finding_word fs ++ r) (drop-zeros (length fs) (length fl))

      listed : {fl' : List ℕ} → fl' ≡ sets l'' 0 (map finding_word fs) → Lists (Ok n) fl'
      listed q = let e = le-ltb (length fl) (length fs) (omega (arith, h, same)) in (rw (e, same) refl, rw e (q ∙ laid))

      pub all_laid : {fl' : List ℕ} {m : ℕ} → Laid fs l'' 0 fl' m → Lists (Ok n) fl'
      all_laid d = listed d.words

      pub none-laid : n ≤ 0 → Lists (Ok n) l''
      none-laid z = listed (none fs (omega (arith, z, same)))
        where
          none : (xs : List Finding) → length xs ≤ 0 → l'' ≡ sets l'' 0 (map finding_word xs)
          none [] e = refl
          none (x ∷ xs) e = absurd (omega arith)
