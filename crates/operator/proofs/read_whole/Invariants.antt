-- The measure falls with each byte that was read and each try that was used up; what is done is what the reader gave.
use Rattle.std.proofs.Common.{◌≡◌, length, take, ◌+◌, ◌-◌, ◌≤◌}
use Rattle.std.specs.Io.KnownBytes.{Consumes}
use Rattle.streams.specs.Streams.{most_tries}
use Rattle.operator.proofs.read_whole.Given as goal

abbrev pub invariant-loop-more : goal.invariant-loop-more
invariant-loop-more g l = (length l.bytes ≡ l.room) × (l.done ≤ l.room) × (l.tries ≤ most_tries)
    × Consumes (g.R.Read.remaining l.initial.input) (g.R.Read.remaining l.input) (take l.done l.bytes)

abbrev pub decreases-loop-more : goal.decreases-loop-more
decreases-loop-more g l = l.room + most_tries - (l.done + l.tries)
