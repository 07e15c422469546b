-- Request 3: a row read in steps. A step sees one word, or the list's end, and the record kept from the words before.
--
-- Held                  — the record: what is kept, and the row's eight coefficients so far
-- Step                  — what a step gives: the record from here on, and what it says
-- seen                  — what a step sees, as the words of a list: one, or none at the list's end
-- place                 — the index of the word that is fed next
-- read                  — goes on with the word that was read, or says why not
-- after_row, after_term — the record after a ROW, after a TERM
-- may_follow            — a TERM whose variable rises and is known, with an allowed coefficient
-- row_step              — one step
-- told                  — the row where a step says complete, with the words that are left; the refusal; else what is to come
-- fed                   — what the steps give, fed the words of a list, each once and in order, and the end at its end
-- begun                 — the record before the first word: how many variables there are, and where the row begins
use Rattle.std.specs.Prelude.{Bool, cond, ◌&&◌, List, [], ◌∷◌, ℕ, suc, ◌+◌, eqb, ltb, leb, ℤ, pos, set, replicate, Some, None, Result, Ok, Err, Option}
use Rattle.words.specs.Words.{bits, ROW, TERM}
use Rattle.words.specs.declared.Refusal.{Refusal}
use Rattle.words.specs.declared.Refusal.TheVariants.{Word}
use Rattle.rows.specs.declared.Row.{Row}
use Rattle.grammar.specs.Reading.{Read, got, refused, one, always, begins}
use Rattle.grammar.specs.Grammar.{coefficient, coefficient_allowed, term, constant_of, constant_allowed}
use Rattle.feed.specs.declared.Said.{Said}
use Rattle.feed.specs.declared.Said.TheVariants.{GoOn, Complete}
use Rattle.feed.specs.declared.Kept.{Kept}

pub record Held : Type 0 where
  pub kept : Kept
  pub coef : List ℤ

pub record Step : Type 0 where
  pub held : Held
  pub said : Result Said Refusal

abbrev pub seen : Option ℕ → List ℕ
seen (Some w) = w ∷ []
seen None = []

abbrev pub place : Kept → ℕ
place k = k.from + k.taken

abbrev pub read : Held → Read ℕ → (ℕ → Held) → Step
read h (got w ws i) f = record { held = f w; said = Ok GoOn }
read h (refused r) f = record { held = h; said = Err r }

abbrev pub after_row : Held → ℕ → Held
after_row h w =
    record { kept = record { vars = h.kept.vars; from = h.kept.from; taken = 1; low = 0; constant = constant_of w }; coef = h.coef }

-- the next TERM's variable has to be above this one
abbrev pub after_term : Held → ℕ → Held
after_term h w =
    record {
      kept = record { vars = h.kept.vars; from = h.kept.from; taken = suc h.kept.taken; low = suc (bits 27 24 w); constant = h.kept.constant };
      coef = set h.coef (bits 27 24 w) (coefficient w);
    }

abbrev pub may_follow : Kept → ℕ → Bool
may_follow k w = leb k.low (bits 27 24 w) && ltb (bits 27 24 w) k.vars && coefficient_allowed w

-- before the ROW only a ROW will do; after it a TERM is read, and any other word, or the end, completes the row
unfoldable pub row_step : Held → Option ℕ → Step
row_step h f =
    cond (eqb h.kept.taken 0)
    (read h (one ROW always always constant_allowed (seen f) (place h.kept)) (after_row h))
    (cond (begins TERM (seen f))
    (read h (term (may_follow h.kept) (seen f) (place h.kept)) (after_term h))
    (record { held = h; said = Ok Complete }))

abbrev pub told : Result Said Refusal → Held → List ℕ → Read Row → Read Row
told (Ok GoOn) h ws more = more
told (Ok Complete) h ws more = got (record { coef = h.coef; constant = h.kept.constant }) ws (place h.kept)
told (Err r) h ws more = refused r

-- the word that completes a row is still the first of those that are left; no step goes on at the end
unfoldable pub fed : Held → List ℕ → Read Row
fed h [] = let s = row_step h None in told s.said s.held [] (refused (Word (place s.held.kept)))
fed h (w ∷ ws) = let s = row_step h (Some w) in told s.said s.held (w ∷ ws) (fed s.held ws)

abbrev pub begun : ℕ → ℕ → Held
begun vars from = record { kept = record { vars = vars; from = from; taken = 0; low = 0; constant = pos 0 }; coef = replicate 8 (pos 0) }
