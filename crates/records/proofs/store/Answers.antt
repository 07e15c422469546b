use Rattle.records.proofs.store.Goals as goal

pub returns : goal.returns
returns c = rw c.word.ensures
