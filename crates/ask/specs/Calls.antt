-- What Ask answers, for any program list, lemma list and number, and what an accepted lemma is worth.
--
-- no_lemma                   — what stands past the end of a list of lemmas
-- weighed                    — the answer by the lemma's largest value: refusal 11 where it leaves signed 64 bits
-- ask_list, ask_program, ask — Ask; refusals in the order 2 to 4, 5 and 6, 8, 11
-- TrueAt, TrueIn             — lemma k of what was read is true of all whole numbers in the ranges
use Rattle.std.specs.Prelude.{Option, Some, None, Result, Ok, Err, ℤ, cond, List, [], ℕ, leb, pos, length, get_or}
use Rattle.std.specs.Int.Signed.{lt_z}
use Rattle.words.specs.Words.{no_literals}
use Rattle.words.specs.declared.Refusal.{Refusal}
use Rattle.words.specs.declared.Refusal.TheVariants.{Absent, Sum}
use Rattle.rows.specs.Rows.{exact}
use Rattle.grammar.specs.Reading.{Read, got, refused}
use Rattle.grammar.specs.Programs.{Program}
use Rattle.programs.specs.Calls.{read}
use Rattle.lemmas.specs.Lemmas.{CannotHappen, Lemma, largest_of}
use Rattle.lemmas.specs.LemmaGrammar.{read_lemmas}
use Rattle.lemmas.specs.Truth.{True}
use Rattle.ask.specs.declared.Asked.{Asked}
use Rattle.ask.specs.declared.Asked.TheVariants.{Accepted, NotAccepted}

abbrev pub no_lemma : Lemma
no_lemma = record { source = 0; goal = CannotHappen; index = 0; premises = no_literals; multipliers = [] }

abbrev pub weighed : ℕ → Option ℤ → Result Asked Refusal
weighed k (Some z) = Ok (cond (lt_z z (pos 0)) Accepted NotAccepted)
weighed k None = Err (Sum k)

abbrev pub ask_list : Program → Read (List Lemma) → ℕ → Result Asked Refusal
ask_list p (got ls ws i) k = cond (leb (length ls) k) (Err (Absent k)) (weighed k (exact (largest_of p (get_or ls k no_lemma))))
ask_list p (refused r) k = Err r

abbrev pub ask_program : Read Program → List ℕ → ℕ → Result Asked Refusal
ask_program (got p ws i) lemmas k = ask_list p (read_lemmas p lemmas) k
ask_program (refused r) lemmas k = Err r

abbrev pub ask : List ℕ → List ℕ → ℕ → Result Asked Refusal
ask ws lemmas k = ask_program (read ws) lemmas k

abbrev pub TrueAt : Program → Read (List Lemma) → ℕ → Type 0
TrueAt p (got ls ws i) k = True p (get_or ls k no_lemma)
TrueAt p (refused r) k = ⊥

abbrev pub TrueIn : Read Program → List ℕ → ℕ → Type 0
TrueIn (got p ws i) lemmas k = TrueAt p (read_lemmas p lemmas) k
TrueIn (refused r) lemmas k = ⊥
