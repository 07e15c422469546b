use mathlib.Core.Path.{◌∙◌}
use Rattle.records.proofs.begin.Goals as goal

pub returns : goal.returns
returns c = c.store.ensures ∙ rw c.root_word.ensures
