-- The words from i on are written, and the way on is what is left: `Tracing`.
use Rattle.verdict.proofs.Traces.{Tracing}
use Rattle.verdict.proofs.write_steps.Given as goal

abbrev pub invariant-loop-i : goal.invariant-loop-i
invariant-loop-i l = Tracing l.records.list.now l.records.actions l.node l.d l.initial.path l.path l.k l.i
