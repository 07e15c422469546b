-- The measure falls with each byte that was written and each try that was used up; what is done is what the writer got.
use Rattle.std.proofs.Common.{take, ◌+◌, ◌-◌, ◌≤◌}
use Rattle.std.specs.Io.KnownBytes.{Appends}
use Rattle.streams.specs.Streams.{most_tries}
use Rattle.operator.proofs.write_whole.Given as goal

abbrev pub invariant-loop-more : goal.invariant-loop-more
invariant-loop-more g l = (l.done ≤ l.room) × (l.tries ≤ most_tries) × Appends (g.W.Write.contents l.initial.output) (g.W.Write.contents l.output) (take l.done l.lines)

abbrev pub decreases-loop-more : goal.decreases-loop-more
decreases-loop-more g l = l.room + most_tries - (l.done + l.tries)
