use Prim.Native.Nat.{◌-◌}
use Rattle.words.specs.Words.{VAR}
use Rattle.grammar.specs.Grammar.{range}
use Rattle.programs.specs.Images.{ranges_from, zero_ranges}
use Rattle.programs.proofs.ManyLaws.{Loop}
use Rattle.programs.proofs.read_ranges.Given as goal

abbrev pub invariant-loop-w : goal.invariant-loop-w
invariant-loop-w l = Loop VAR range 8 ranges_from l.words 0 zero_ranges l.ranges l.k l.k

abbrev pub decreases-loop-w : goal.decreases-loop-w
decreases-loop-w l = 8 - l.k
