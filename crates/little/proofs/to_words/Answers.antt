-- The first k words are written, the rest is as it was.
use native.Mathlib.Omega.{arith}
use borrow.Author.Rules.{rules}
use Rattle.little.specs.LittleEndian.{words_of}
use Rattle.little.proofs.Laws.{one_more}
use Rattle.little.proofs.to_words.Goals as goal

pub loop-k-init : goal.loop-k-init
unfolding words_of
loop-k-init c = search rules

pub loop-k-preserved : goal.loop-k-preserved
loop-k-preserved c =
    let l = c.loop-k in
    let a = c.args in
    one_more a.b.now a.words.now l.words l.k c.word_at.result (omega arith) l.invariant c.word_at.ensures
