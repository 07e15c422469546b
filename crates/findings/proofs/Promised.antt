-- What the answers and lists of Findings are worth, by the definitions: the sheet, demand 3, and how it agrees with Judge.
use mathlib.Core.Path.{◌≡◌, refl, ap, ◌∙◌}
use mathlib.Core.Bool.{Bool, true, false, cond}
use mathlib.Core.List.{List, [], ◌∷◌, ◌++◌, map}
use Prim.Native.Nat.{ℕ, suc, ◌-◌, ◌≤◌}
use native.Mathlib.Omega.{arith}
use lib.Dec.{ltb}
use Rattle.std.specs.Prelude.{Result, Ok, Err}
use lib.ListN.{length, replicate, length-map}
use lib.Seq.{take_at}
use borrow.Author.Tests.{ltb-true, le-ltb}
use Rattle.words.specs.Refusals.{number}
use Rattle.words.specs.declared.Refusal.{Refusal}
use Rattle.words.specs.declared.Refusal.TheVariants.{Short, Nodes, Findings}
use Rattle.grammar.specs.Programs.{Program}
use Rattle.programs.specs.Calls.{read}
use Rattle.lemmas.specs.Lemmas.{Lemma}
use Rattle.search.specs.Search.{Graph}
use Rattle.records.specs.Records.{graph_words}
use Rattle.abstraction.specs.Faithful.{TooMany}
use Rattle.survey.specs.Surveys.{Survey, stops, draws, survey_program}
use Rattle.verdict.specs.Verdicts.{findings, path_words}
use Rattle.verdict.specs.declared.Finding.{Finding}
use Rattle.verdict.specs.declared.Finding.TheVariants.{Forbid, RunOff}
use Rattle.sheet.specs.Sheets.{finding_word, Sheet}
use Rattle.sheet.proofs.Sheet.{sheet}
use Rattle.sheet.proofs.Most.{findings-few}
use Rattle.judge.specs.Worth.{OfRead, SafeOf}
use Rattle.judge.specs.Calls.{verdict, judge_survey, judge}
use Rattle.judge.specs.Calls.{keep as keep-judged}
use Rattle.judge.proofs.Promised.{Known, Worth, of-read, other, survey-worth, safe_if}
use Rattle.findings.specs.Calls.{Listing, keep, list_all, list_survey, listing}
use Rattle.findings.specs.Worth.{SheetOf, Begins, Agrees}
use Rattle.findings.proofs.Listing.{graph-kept}

refused_none : {P : Type 0} {r : Refusal} {n : ℕ} → ◌≡◌ {A = Result ℕ Refusal} (Err r) (Ok n) → P
refused_none e = absurd cc

-- ---- the sheet
module _ (ws lemmas gl fl : List ℕ) where
  -- of a listing, with the two lists at entry
  abbrev Worthy : Listing → Type 0
  Worthy s = SheetOf ws lemmas s.answer gl s.graph fl s.list

  -- a refusal that is not 12
  refused-worthy : (r : Refusal) (gl' : List ℕ) → number r ≤ 11 → (r ≡ Nodes → OfRead TooMany (read ws) lemmas) → Worthy (keep (Err r) gl' fl)
  refused-worthy r gl' h t = (λ n e. absurd (omega (arith, h, ap number e)), t)

  module _ (p : Program) (ls : List Lemma) (g : Graph) (gl' : List ℕ) (k : Known ws lemmas gl p ls g gl') where
    abbrev fs : List Finding
    fs = findings p ls g

    is-sheet : Sheet p ls g (map finding_word fs)
    is-sheet = sheet p k.good ls g k.drawn.few

    all-worthy : Worthy (list_all fs gl' fl)
    all-worthy = go (ltb (length fl) (length fs)) refl
      where
        go : (b : Bool) → ltb (length fl) (length fs) ≡ b → Worthy (cond b (keep (Err (Findings (length fs))) gl' fl)
            (record { answer = Ok (length fs); graph = gl'; list = map finding_word fs ++ replicate (length fl - length fs) 0 }))
        go true e = (
          λ n same. let d : length fs ≡ n = cc same in
              of-read k _ (g, k.drawn, (map finding_word fs, is-sheet, length-map fs finding_word ∙ d, omega (arith, ltb-true (length fl) (length fs) e, d), omega (arith, findings-few p k.good ls g k.drawn.few, d))),
          other (Findings (length fs)) (λ z. omega arith),
        )
        go false e = of-read k _ (g, k.drawn, rw (take_at (map finding_word fs) (replicate (length fl - length fs) 0) (length fs) (length-map fs finding_word)) is-sheet)

  survey-worthy : (s : Survey) → Worth ws lemmas gl s → Worthy (list_survey s fl)
  survey-worthy (stops r gl') w = refused-worthy r gl' w.0 w.1
  survey-worthy (draws p ls g gl') w = all-worthy p ls g gl' w

  pub surveyed-sheet : (s : Survey) → survey_program (read ws) lemmas gl ≡ s → Worthy (list_survey s fl)
  surveyed-sheet s e = survey-worthy s (rw e at (survey-worth ws lemmas gl))

  pub listing-sheet : Worthy (listing ws lemmas gl fl)
  listing-sheet = go (ltb (length gl) graph_words)
    where
      go : (b : Bool) → Worthy (cond b (keep (Err (Short 0)) gl fl) (list_survey (survey_program (read ws) lemmas gl) fl))
      go true = refused-worthy (Short 0) gl (omega arith) (other (Short 0) (λ z. omega arith))
      go false = surveyed-sheet (survey_program (read ws) lemmas gl) refl

-- ---- demand 3
module _ (ws lemmas gl fl : List ℕ) where
  none-listed : (fs : List Finding) (gl' : List ℕ) → (list_all fs gl' fl).answer ≡ Ok 0 → fs ≡ []
  none-listed [] gl' e = refl
  none-listed (f ∷ fs) gl' e = go (ltb (length fl) (suc (length fs))) e
    where
      go : (t : Bool) → (cond t (keep (Err (Findings (suc (length fs)))) gl' fl)
          (record { answer = Ok (suc (length fs)); graph = gl'; list = finding_word f ∷ map finding_word fs ++ replicate (length fl - suc (length fs)) 0 })).answer ≡ Ok 0 → f ∷ fs ≡ []
      go true q = refused_none q
      go false q = let z : suc (length fs) ≡ 0 = cc q in absurd (omega (arith, z))

  survey-safe : (s : Survey) → Worth ws lemmas gl s → (list_survey s fl).answer ≡ Ok 0 → SafeOf (read ws)
  survey-safe (stops r gl') w e = refused_none e
  survey-safe (draws p ls g gl') w e = safe_if w (none-listed (findings p ls g) gl' e)

  pub listing-safe : (listing ws lemmas gl fl).answer ≡ Ok 0 → SafeOf (read ws)
  listing-safe = go (ltb (length gl) graph_words)
    where
      go : (b : Bool) → (cond b (keep (Err (Short 0)) gl fl) (list_survey (survey_program (read ws) lemmas gl) fl)).answer ≡ Ok 0 → SafeOf (read ws)
      go true e = refused_none e
      go false e = survey-safe (survey_program (read ws) lemmas gl) (survey-worth ws lemmas gl) e

-- ---- with Judge
module _ (fl pl : List ℕ) where
  abbrev Same : Survey → Type 0
  Same s = Agrees (judge_survey s pl).answer (list_survey s fl).answer (list_survey s fl).list × ((list_survey s fl).graph ≡ (judge_survey s pl).graph)

  begins : (f : Finding) (fs : List Finding) (gl : List ℕ) → Begins f (list_all (f ∷ fs) gl fl).answer (list_all (f ∷ fs) gl fl).list
  begins f fs gl = go (ltb (length fl) (suc (length fs)))
    where
      go : (t : Bool) → let s = cond t (keep (Err (Findings (suc (length fs)))) gl fl)
          (record { answer = Ok (suc (length fs)); graph = gl; list = finding_word f ∷ map finding_word fs ++ replicate (length fl - suc (length fs)) 0 })
          in Begins f s.answer s.list
      go true = (suc (length fs), refl, omega arith)
      go false = (omega arith, refl)

  verdict-same : (g : Graph) (fs : List Finding) (gl : List ℕ) → Agrees (Ok (verdict g fs)) (list_all fs gl fl).answer (list_all fs gl fl).list
  verdict-same g [] gl = rw (le-ltb (length fl) 0 (omega arith)) refl
  verdict-same g (Forbid k b ∷ fs) gl = begins (Forbid k b) fs gl
  verdict-same g (RunOff k j v high ∷ fs) gl = begins (RunOff k j v high) fs gl

  survey-same : (s : Survey) → Same s
  survey-same (stops r gl) = (refl, refl)
  survey-same (draws p ls g gl) = (verdict-same g (findings p ls g) gl, graph-kept (findings p ls g) gl fl)

pub listing-judge : (ws lemmas gl fl pl : List ℕ) → path_words ≤ length pl
    → Agrees (judge ws lemmas gl pl).answer (listing ws lemmas gl fl).answer (listing ws lemmas gl fl).list × ((listing ws lemmas gl fl).graph ≡ (judge ws lemmas gl pl).graph)
listing-judge ws lemmas gl fl pl long = rw (le-ltb (length pl) path_words long) (go (ltb (length gl) graph_words))
  where
    s : Survey
    s = survey_program (read ws) lemmas gl

    go : (t : Bool) → Agrees (cond t (keep-judged (Err (Short 0)) gl pl) (judge_survey s pl)).answer (cond t (keep (Err (Short 0)) gl fl) (list_survey s fl)).answer (cond t (keep (Err (Short 0)) gl fl) (list_survey s fl)).list
        × ((cond t (keep (Err (Short 0)) gl fl) (list_survey s fl)).graph ≡ (cond t (keep-judged (Err (Short 0)) gl pl) (judge_survey s pl)).graph)
    go true = (refl, refl)
    go false = survey-same fl pl s
