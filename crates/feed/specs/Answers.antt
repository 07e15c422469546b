-- A step's record and answer in memory: what is kept goes by value, the coefficients are lent. Only contracts of functions within the project cite these.
--
-- held    — the record of what is kept and of the coefficients lent
-- stepped — the step of an answer and of the coefficients at exit
use Rattle.std.specs.Prelude.{List, ℤ}
use Rattle.feed.specs.declared.Kept.{Kept}
use Rattle.feed.specs.declared.Answer.{Answer}
use Rattle.feed.specs.Steps.{Held, Step}

abbrev pub held : Kept → List ℤ → Held
held k c = record { kept = k; coef = c }

abbrev pub stepped : Answer → List ℤ → Step
stepped r c = record { held = held r.kept c; said = r.said }
