use Prim.Native.Nat.{◌≤◌}
use Rattle.reader.proofs.RowLoop.{RowLoop}
use Rattle.reader.proofs.read_row.Given as goal

abbrev pub invariant-loop-w : goal.invariant-loop-w
invariant-loop-w l = (l.vars ≤ 8) × RowLoop l.part l.base l.vars l.kept l.coef l.w-index
