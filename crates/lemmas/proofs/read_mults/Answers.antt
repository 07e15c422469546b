use Rattle.std.proofs.lemmas.Result.{err_from_is_err_and}
use Rattle.lemmas.proofs.ListLaws.{mults-stopped, mults-next, mults-ended}
use Rattle.lemmas.proofs.read_mults.Goals as goal

pub returns-in_err-read_word : goal.returns-in_err-read_word
returns-in_err-read_word c =
    let p = err_from_is_err_and c.from_residual.result c.from_residual.ensures.1 in
    rw (p.1, p.2) (mults-stopped c.args.lemmas.now c.args.at c.args.n c.loop-k.invariant c.loop-k-test.true (rw c.word_at-w.ensures at c.in_err-read_word.ensures))

pub loop-k-preserved : goal.loop-k-preserved
loop-k-preserved c =
    (mults-next c.args.lemmas.now c.args.at c.args.n c.loop-k.invariant c.loop-k-test.true (rw c.word_at-w.ensures at c.in_ok-read_word.ensures)).1

pub returns : goal.returns
returns c = mults-ended c.args.lemmas.now c.args.at c.args.n c.loop-k.invariant c.loop-k-test.false
