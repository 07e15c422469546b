use Rattle.reader.proofs.Laws.{handed-back}
use Rattle.programs.proofs.Parts.{end-refused, end-more, end-reached}
use Rattle.programs.proofs.read_end.Goals as goal

pub returns-in_err-i : goal.returns-in_err-i
returns-in_err-i c =
    handed-back c.from_residual.result c.from_residual.ensures.1 (end-refused c.args.words.now c.args.at (rw c.word_at-w.ensures at c.in_err-i.ensures))

pub returns-then-i-words : goal.returns-then-i-words
returns-then-i-words c = end-more c.args.words.now c.args.at (rw c.word_at-w.ensures at c.in_ok-i.ensures) c.if-i-words.true

pub returns-else-i-words : goal.returns-else-i-words
returns-else-i-words c = end-reached c.args.words.now c.args.at (rw c.word_at-w.ensures at c.in_ok-i.ensures) c.if-i-words.false
