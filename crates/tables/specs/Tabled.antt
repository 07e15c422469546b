-- The lemmas of a list weighed one after the other, and the tables of the accepted ones. Only contracts of functions within the project cite these.
--
-- lemmas_or, the_lemmas — the lemmas that a list of words is; none where it is no lemma list
-- Begun                 — a list is these lemmas, and where each begins
-- Filled                — no sum leaves 64 bits, and the first n entries of a list are those of the accepted lemmas
-- Tabled                — an answer and the list of entries: so many are accepted, and it is filled; or the refusal of the first sum that leaves 64 bits
use Rattle.std.specs.Prelude.{◌≡◌, List, [], map, ℕ, ◌≤◌, ◌<◌, length, get_or, take, Result, MatchResult}
use Rattle.words.specs.Limits.{most_lemmas}
use Rattle.words.specs.declared.Refusal.{Refusal}
use Rattle.words.specs.declared.Refusal.TheVariants.{Sum}
use Rattle.grammar.specs.Reading.{Read, got, refused}
use Rattle.grammar.specs.Programs.{Program}
use Rattle.grammar.specs.WellFormed.{Few}
use Rattle.lemmas.specs.Lemmas.{Lemma}
use Rattle.lemmas.specs.LemmaGrammar.{read_lemmas, LemmaOk}
use Rattle.ask.specs.Calls.{no_lemma}
use Rattle.ask.specs.Weighing.{the_lemma, IsLemma}
use Rattle.gather.specs.Gathering.{entry_of}
use Rattle.gather.specs.declared.Entry.{Entry}
use Rattle.abstraction.specs.Claims.{claims}
use Rattle.tables.specs.Off.{first_off}

abbrev pub lemmas_or : Read (List Lemma) → List Lemma
lemmas_or (got ls ws i) = ls
lemmas_or (refused r) = []

abbrev pub the_lemmas : Program → List ℕ → List Lemma
the_lemmas p ws = lemmas_or (read_lemmas p ws)

pub record Begun (p : Program) (ws begin : List ℕ) (ls : List Lemma) : Type 0 where
  pub counted : length begin ≡ length ls
  pub good : Few most_lemmas (LemmaOk p) ls
  pub here : (k : ℕ) → k < length begin → IsLemma p ws (get_or begin k 0) × (the_lemma p ws (get_or begin k 0) ≡ get_or ls k no_lemma)

pub record Filled (p : Program) (ls : List Lemma) (es : List Entry) (n : ℕ) : Type 0 where
  pub none-off : first_off p ls ≡ length ls
  pub few : n ≤ length es
  pub same : take n es ≡ map entry_of (claims p ls)

abbrev pub Tabled : Program → List Lemma → List Entry → Result ℕ Refusal → Type 0
Tabled p ls es r = MatchResult r (Filled p ls es) (λ why. (first_off p ls < length ls) × (why ≡ Sum (first_off p ls)))
