use Prim.Native.Nat.{◌-◌, ◌≤◌}
use lib.ListN.{replicate}
use Rattle.words.specs.Words.{no_literals, SETS}
use Rattle.grammar.specs.Grammar.{combination}
use Rattle.programs.specs.Images.{forbidden_from}
use Rattle.programs.proofs.ManyLaws.{Loop}
use Rattle.programs.proofs.read_forbidden.Given as goal

abbrev pub invariant-loop-w : goal.invariant-loop-w
invariant-loop-w l = (l.preds ≤ 14) × Loop SETS (combination l.preds) 8 forbidden_from l.words l.at (replicate 8 no_literals) l.literals l.i l.k

abbrev pub decreases-loop-w : goal.decreases-loop-w
decreases-loop-w l = 8 - l.k
