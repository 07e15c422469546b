use Rattle.std.proofs.Common.{rules}
use Rattle.reader.proofs.Laws.{word_is}
use Rattle.reader.proofs.read_word.Goals as goal

pub returns-then-not-begins : goal.returns-then-not-begins
returns-then-not-begins c = word_is _ _ _ _ _ _ (rw (← c.begins.ensures) (search rules))

pub returns-then-not-within : goal.returns-then-not-within
returns-then-not-within c = word_is _ _ _ _ _ _ (rw (← c.begins.ensures) (search rules))

pub returns-then-not-allowed : goal.returns-then-not-allowed
returns-then-not-allowed c = word_is _ _ _ _ _ _ (rw (← c.begins.ensures) (search rules))

pub returns : goal.returns
returns c = word_is _ _ _ _ _ _ (rw (← c.begins.ensures) (search rules))
