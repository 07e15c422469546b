-- The steps taken and the steps left are all: `Counting`.
use Rattle.verdict.proofs.Traces.{Counting}
use Rattle.verdict.proofs.count_steps.Given as goal

abbrev pub invariant-loop-d : goal.invariant-loop-d
invariant-loop-d l = Counting l.records.list.now l.records.actions l.node l.k l.d
