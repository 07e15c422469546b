-- From the bytes of a show file to Judge's answer and what is left in the lent lists.
--
-- most_bytes, show_words        — how many bytes a show may have; how many words their list has room for
-- logic_length                  — how many words belong to the logic: the first one of kind 15 is its last; without one, all
-- words_in, logic_in, lemmas_in — the words of a show's bytes, the lowest byte first; the logic and the lemmas in words
-- Showing                       — the answer, and the graph and path lists at exit
-- of_words                      — Judge, of the logic and the lemmas in words, with how many words each has
-- of_bytes                      — of any bytes: too long, then odd bytes, then Judge
-- show                          — the same where the words' list is long enough
-- words_left                    — the words' list at exit: an answer of Judge leaves the show's words at its front, any other leaves it
-- SafeShow                      — the bytes hold the logic of a program, and it is safe
use Rattle.std.specs.Prelude.{◌≡◌, cond, List, [], ◌∷◌, ◌++◌, ℕ, suc, ◌/◌, ◌%◌, eqb, ltb, length, take, drop, Result, Ok, Err}
use Rattle.words.specs.Words.{kind_of, END}
use Rattle.grammar.specs.Reading.{got}
use Rattle.grammar.specs.Programs.{Program}
use Rattle.programs.specs.Calls.{read}
use Rattle.runs.specs.Runs.{Safe}
use Rattle.judge.specs.Calls.{judge}
use Rattle.little.specs.LittleEndian.{words_of}
use Rattle.show.specs.declared.Answered.{Answered}
use Rattle.show.specs.declared.Unread.{Unread}
use Rattle.show.specs.declared.Unread.TheVariants.{WordsShort, TooLong, OddBytes}

abbrev pub most_bytes : ℕ
most_bytes = 65536

abbrev pub show_words : ℕ
show_words = 16384

-- ---- the words
unfoldable pub logic_length : List ℕ → ℕ
logic_length [] = 0
logic_length (w ∷ ws) = cond (eqb (kind_of w) END) 1 (suc (logic_length ws))

abbrev pub words_in : List ℕ → List ℕ
words_in b = words_of b (length b / 4)

abbrev pub logic_in : List ℕ → List ℕ
logic_in ws = take (logic_length ws) ws

abbrev pub lemmas_in : List ℕ → List ℕ
lemmas_in ws = drop (logic_length ws) ws

-- ---- the answer
pub record Showing : Type 0 where
  pub answer : Result Answered Unread
  pub graph : List ℕ
  pub path : List ℕ

abbrev pub of_words : List ℕ → List ℕ → List ℕ → Showing
of_words ws gl pl =
    let j = judge (logic_in ws) (lemmas_in ws) gl pl in
    record {
      answer = Ok (record { logic = length (logic_in ws); lemmas = length (lemmas_in ws); judged = j.answer });
      graph = j.graph;
      path = j.path;
    }

unfoldable pub of_bytes : List ℕ → List ℕ → List ℕ → Showing
of_bytes b gl pl =
    cond (ltb most_bytes (length b)) (record { answer = Err TooLong; graph = gl; path = pl })
    (cond (eqb (length b % 4) 0) (of_words (words_in b) gl pl) (record { answer = Err OddBytes; graph = gl; path = pl }))

abbrev pub show : List ℕ → List ℕ → List ℕ → List ℕ → Showing
show b wl gl pl = cond (ltb (length wl) show_words) (record { answer = Err WordsShort; graph = gl; path = pl }) (of_bytes b gl pl)

abbrev pub words_left : Result Answered Unread → List ℕ → List ℕ → List ℕ
words_left (Ok a) b wl = words_in b ++ drop (length (words_in b)) wl
words_left (Err why) b wl = wl

-- ---- what it is worth
pub record SafeShow (b : List ℕ) : Type 0 where
  pub program : Program
  pub rest : List ℕ
  pub at : ℕ
  pub is : read (logic_in (words_in b)) ≡ got program rest at
  pub safe : Safe program
