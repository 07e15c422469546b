-- What is kept stands at each place below a.
use lib.Bits.{bit_and}
use lib.ListN.{get_or}
use Rattle.integers.proofs.Fill.{Filled}
use Rattle.gather.proofs.all_kept.Given as goal

abbrev pub invariant-loop-a : goal.invariant-loop-a
invariant-loop-a l = Filled (λ k. bit_and l.node (get_or l.kept k 0)) 0 16 l.t l.a
