-- The grammar of a lemma list over a program, and its words.
--
-- sets_variable                                                — an action's assignments have one to the variable
-- source_allowed, goal_allowed, head_allowed, premises_allowed — what a lemma's first two words may say
-- multiplier                                                   — MULT
-- lemma_of, lemma                                              — LEMMA, SETS and the MULTs
-- list                                                         — at most 512 lemmas, and nothing after them
-- as_lemma, in_lemmas                                          — 5 for a word missing or against the rules, 6 for a 513th LEMMA
-- read_lemmas                                                  — the lemmas that a list of words is, or the refusal that is due
-- encode_multiplier, encode_lemma                              — the words of a lemma; those of a list are `concat encode_lemma`
-- LemmaOk                                                      — well-formed lemmas: those that have words
use Rattle.std.specs.Prelude.{◌≡◌, Bool, true, false, cond, ◌&&◌, ◌||◌, not, List, [], ◌∷◌, ℕ, ◌+◌, ◌*◌, ◌^◌, ◌≤◌, ◌<◌, eqb, ltb, leb, length}
use Rattle.words.specs.Words.{bits, payload, word, literals_of, LEMMA, SETS, MULT}
use Rattle.words.specs.Limits.{most_multiplier, most_lemmas}
use Rattle.words.specs.Refusals.{number, value}
use Rattle.words.specs.declared.Refusal.{Refusal}
use Rattle.words.specs.declared.Refusal.TheVariants.{Lemmas}
use Rattle.words.specs.declared.Refusal.TheVariants.{Lemma as LemmaWord}
use Rattle.grammar.specs.Reading.{Read, Reader, got, refused, pure, ◌>>=◌, one, always, times, many}
use Rattle.grammar.specs.Programs.{Assignment, Program}
use Rattle.grammar.specs.Grammar.{literals_allowed, nothing}
use Rattle.grammar.specs.Encoding.{concat}
use Rattle.grammar.specs.WellFormed.{Each}
use Rattle.runs.specs.Runs.{action_of}
use Rattle.lemmas.specs.Lemmas.{Goal, CannotHappen, HoldsAfter, FailsAfter, NotBelow, NotAbove, goal_number, goal_of, Lemma, START, rows_of}

unfoldable pub sets_variable : List Assignment → ℕ → Bool
sets_variable [] v = false
sets_variable (s ∷ ss) v = eqb s.variable v || sets_variable ss v

-- A source other than 255 needs an action of that number.
abbrev pub source_allowed : Program → ℕ → Bool
source_allowed p source = eqb source START || ltb source (length p.actions)

-- Goal 0 has index 0; goals 1 and 2 need a predicate of that index. Goals 3 and 4 need an action that sets that variable.
abbrev pub goal_allowed : Program → ℕ → Goal → ℕ → Bool
goal_allowed p source CannotHappen i = eqb i 0
goal_allowed p source HoldsAfter i = ltb i (length p.predicates)
goal_allowed p source FailsAfter i = ltb i (length p.predicates)
goal_allowed p source NotBelow i = sets_variable (action_of p source).sets i
goal_allowed p source NotAbove i = sets_variable (action_of p source).sets i

-- LEMMA: source 27..20, goal 19..16, index 7..0; there are goals 0 to 4
abbrev pub head_allowed : Program → ℕ → Bool
head_allowed p w =
    eqb (bits 15 8 w) 0 && source_allowed p (bits 27 20 w)
    && (leb (bits 19 16 w) 4 && goal_allowed p (bits 27 20 w) (goal_of (bits 19 16 w)) (bits 7 0 w))

-- Its SETS obeys the rules of a forbidden combination; the start's premises must be empty.
abbrev pub premises_allowed : Program → ℕ → ℕ → Bool
premises_allowed p source set = literals_allowed (length p.predicates) set && (not (eqb source START) || eqb set 0)

-- MULT: 0 to 65,535
abbrev pub multiplier : Reader ℕ
multiplier = do
  w ← one MULT always always (λ w. leb (payload w) most_multiplier)
  pure (payload w)

abbrev pub lemma_of : ℕ → ℕ → List ℕ → Lemma
lemma_of w s ms = record { source = bits 27 20 w; goal = goal_of (bits 19 16 w); index = bits 7 0 w; premises = literals_of s; multipliers = ms }

unfoldable pub lemma : Program → Bool → Reader Lemma
lemma p room = do
  w ← one LEMMA always (λ w. room) (head_allowed p)
  s ← one SETS always always (λ s. premises_allowed p (bits 27 20 w) (payload s))
  ms ← times (length (rows_of p (lemma_of w s []))) multiplier
  pure (lemma_of w s ms)

unfoldable pub list : Program → Reader (List Lemma)
list p = do
  ls ← many LEMMA (lemma p) most_lemmas
  e ← nothing
  pure ls

abbrev pub as_lemma : Refusal → Refusal
as_lemma r = cond (eqb (number r) 3) (Lemmas (value r)) (LemmaWord (value r))

abbrev pub in_lemmas : Read (List Lemma) → Read (List Lemma)
in_lemmas (got ls ws i) = got ls ws i
in_lemmas (refused r) = refused (as_lemma r)

abbrev pub read_lemmas : Program → List ℕ → Read (List Lemma)
read_lemmas p ws = in_lemmas (list p ws 0)

-- ---- words
abbrev pub encode_multiplier : ℕ → List ℕ
encode_multiplier m = word MULT m ∷ []

abbrev pub encode_lemma : Lemma → List ℕ
encode_lemma l =
    word LEMMA (l.source * 2 ^ 20 + goal_number l.goal * 2 ^ 16 + l.index) ∷ word SETS l.premises.0
    ∷ concat encode_multiplier l.multipliers

pub record LemmaOk (p : Program) (l : Lemma) : Type 0 where
  pub source : source_allowed p l.source ≡ true
  pub goal : goal_allowed p l.source l.goal l.index ≡ true
  pub premises : premises_allowed p l.source l.premises.0 ≡ true
  pub payload : l.premises.0 < 2 ^ 28
  pub counted : length l.multipliers ≡ length (rows_of p l)
  pub small : Each (λ m. m ≤ most_multiplier) l.multipliers
