-- The words' list holds the words of the bytes at its front.
use Rattle.std.proofs.Common.{◌≡◌, ◌/◌, ◌%◌, ◌≤◌, ◌++◌, ℕ, List, length, take, drop, sym, ◌∙◌, arith}
use borrow.Author.Tests.{le-ltb, eq-eqb}
use lib.Seq.{take_at}
use Rattle.little.proofs.Laws.{length-words}
use Rattle.little.specs.LittleEndian.{words_of}
use Rattle.show.specs.Show.{most_bytes, show_words, words_in, of_words, of_bytes, show}
use Rattle.show.proofs.Safe.{show-safe}
use Rattle.show.proofs.show.Goals as goal

front : (b wl ws : List ℕ) → ws ≡ words_of b (length b / 4) ++ drop (length b / 4) wl → take (length b / 4) ws ≡ words_in b
front b wl ws are = rw are (take_at (words_in b) (drop (length b / 4) wl) (length b / 4) (length-words b (length b / 4)))

-- past the room and the length rules
through : (b wl ws gl pl : List ℕ) → show_words ≤ length wl → length b ≤ most_bytes → length b % 4 ≡ 0 → ws ≡ words_of b (length b / 4) ++ drop (length b / 4) wl
    → show b wl gl pl ≡ of_words (take (length b / 4) ws) gl pl
unfolding of_bytes
through b wl ws gl pl room few even are =
    rw (le-ltb (length wl) show_words room, le-ltb most_bytes (length b) few, eq-eqb (length b % 4) 0 even, front b wl ws are)

pub returns-clause-answer : goal.returns-clause-answer
returns-clause-answer c =
    let g = c.args in
    rw (through g.bytes.now g.words.now c.to_words.new.words g.graph.now g.path.now (omega arith) (omega arith) (omega arith) c.to_words.ensures)
    c.judge_words.ensures.answer

pub returns-clause-safe : goal.returns-clause-safe
returns-clause-safe c a n e is at =
    let g = c.args in show-safe g.bytes.now g.graph.now g.path.now a n e at g.words.now (sym (returns-clause-answer c) ∙ is)
