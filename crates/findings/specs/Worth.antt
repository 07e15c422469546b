-- What the answer of Findings, with what it leaves in the two lent lists, is worth.
--
-- Needs   — a graph's sheet has n words, at most 135,168, and a list has no room for it
-- SheetOf — of an answer: the graph list holds formula (3)'s graph, and the list's front is its sheet; 12 says how long that would be, and 7 that too many
--           nodes are reachable
-- Begins — a list that begins with a finding's word, or would, had it room
-- Agrees — with Judge: nothing is listed exactly where Judge says safe, Judge's finding is listed first, and Judge's refusals are these
use Rattle.std.specs.Prelude.{◌≡◌, List, ℕ, ◌<◌, ◌≤◌, length, get_or, take, Result, Ok, Err}
use Rattle.words.specs.Limits.{most_findings}
use Rattle.words.specs.declared.Refusal.{Refusal}
use Rattle.words.specs.declared.Refusal.TheVariants.{Nodes, Findings}
use Rattle.grammar.specs.Programs.{Program}
use Rattle.programs.specs.Calls.{read}
use Rattle.lemmas.specs.Lemmas.{Lemma}
use Rattle.search.specs.Search.{Graph, count, links}
use Rattle.abstraction.specs.Faithful.{TooMany}
use Rattle.verdict.specs.declared.Finding.{Finding}
use Rattle.verdict.specs.declared.Finding.TheVariants.{Forbid, RunOff}
use Rattle.sheet.specs.Sheets.{finding_word, Sheet}
use Rattle.judge.specs.Worth.{OfRead, Drawn}
use Rattle.judge.specs.declared.Judged.{Judged}
use Rattle.judge.specs.declared.Judged.TheVariants.{Safe, MayForbid, MayRunOff}

abbrev pub Needs : Program → List Lemma → Graph → ℕ → List ℕ → Type 0
Needs p ls g n fl = (l : List ℕ) × Sheet p ls g l × (length l ≡ n) × (length fl < n) × (n ≤ most_findings)

-- the answer, then the graph list at entry and at exit, and the findings list at entry and at exit
abbrev pub SheetOf : List ℕ → List ℕ → Result ℕ Refusal → List ℕ → List ℕ → List ℕ → List ℕ → Type 0
SheetOf ws lemmas (Ok n) gl gl' fl fl' =
    OfRead (λ p ls. (g : Graph) × Drawn p ls g (count g) (links g) gl gl' × Sheet p ls g (take n fl')) (read ws) lemmas
SheetOf ws lemmas (Err r) gl gl' fl fl' =
    ((n : ℕ) → r ≡ Findings n → OfRead (λ p ls. (g : Graph) × Drawn p ls g (count g) (links g) gl gl' × Needs p ls g n fl) (read ws) lemmas)
    × (r ≡ Nodes → OfRead TooMany (read ws) lemmas)

abbrev pub Begins : Finding → Result ℕ Refusal → List ℕ → Type 0
Begins f (Ok n) l = (0 < n) × (get_or l 0 0 ≡ finding_word f)
Begins f (Err r) l = (n : ℕ) × (r ≡ Findings n) × (0 < n)

-- Judge's answer, then that of Findings with the list at exit
abbrev pub Agrees : Result Judged Refusal → Result ℕ Refusal → List ℕ → Type 0
Agrees (Ok (Safe n e)) r l = r ≡ Ok 0
Agrees (Ok (MayForbid k b n e)) r l = Begins (Forbid k b) r l
Agrees (Ok (MayRunOff k j v high n e)) r l = Begins (RunOff k j v high) r l
Agrees (Err why) r l = r ≡ Err why
