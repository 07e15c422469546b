-- The actions written and those of the words ahead are all: `Stepping`.
use Rattle.report.proofs.Steps.{Stepping}
use Rattle.report.proofs.put_steps.Given as goal

abbrev pub invariant-loop-w : goal.invariant-loop-w
invariant-loop-w l = Stepping l.initial.out l.at l.path l.out l.place l.w-index
