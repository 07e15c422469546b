-- Where the answer for a show's bytes is safe, the logic in the bytes is a program, and it is safe.
use mathlib.Core.Path.{◌≡◌, refl}
use mathlib.Core.Bool.{Bool, true, false, cond}
use mathlib.Core.List.{List}
use Rattle.std.specs.Prelude.{Ok, Err}
use Prim.Native.Nat.{ℕ, ◌%◌}
use lib.Dec.{eqb, ltb}
use lib.ListN.{length}
use Rattle.grammar.specs.Reading.{Read, got, refused}
use Rattle.grammar.specs.Programs.{Program}
use Rattle.programs.specs.Calls.{read}
use Rattle.judge.specs.Worth.{SafeOf}
use Rattle.judge.specs.Calls.{judge}
use Rattle.judge.specs.declared.Judged.TheVariants.{Safe}
use Rattle.judge.proofs.Promised.{judge-safe}
use Rattle.show.specs.declared.Answered.{Answered}
use Rattle.show.specs.declared.Unread.TheVariants.{WordsShort, TooLong, OddBytes}
use Rattle.show.specs.Show.{most_bytes, show_words, words_in, logic_in, lemmas_in, of_words, of_bytes, show, SafeShow}

module _ (b gl pl : List ℕ) (a : Answered) (n e : ℕ) (at : a.judged ≡ Ok (Safe n e)) where
  told : (r : Read Program) → read (logic_in (words_in b)) ≡ r → SafeOf r → SafeShow b
  told (got p ws i) h s = record { program = p; rest = ws; at = i; is = h; safe = s }
  told (refused r) h s = absurd s

  by_length : (is-long whole : Bool) → (cond is-long (record { answer = Err TooLong; graph = gl; path = pl }) (cond whole (of_words (words_in b) gl pl) (record { answer = Err OddBytes; graph = gl; path = pl }))).answer ≡ Ok a → SafeShow b
  by_length true whole h = cc
  by_length false true h =
      let is : (judge (logic_in (words_in b)) (lemmas_in (words_in b)) gl pl).answer ≡ Ok (Safe n e) = cc in
      told (read (logic_in (words_in b))) refl (judge-safe (logic_in (words_in b)) (lemmas_in (words_in b)) gl pl is)
  by_length false false h = cc

  pub bytes-safe : (of_bytes b gl pl).answer ≡ Ok a → SafeShow b
  unfolding of_bytes
  bytes-safe h = by_length (ltb most_bytes (length b)) (eqb (length b % 4) 0) h

  by-room : (short : Bool) → (cond short (record { answer = Err WordsShort; graph = gl; path = pl }) (of_bytes b gl pl)).answer ≡ Ok a → SafeShow b
  by-room true h = cc
  by-room false h = bytes-safe h

  pub show-safe : (wl : List ℕ) → (show b wl gl pl).answer ≡ Ok a → SafeShow b
  show-safe wl h = by-room (ltb (length wl) show_words) h
