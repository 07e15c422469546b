-- The actions written and those of the words ahead are all: `Stepping`. The measure is what is left of the path.
use native.Mathlib.Omega.{arith}
use Rattle.words.specs.Words.{STEP}
use Rattle.words.proofs.Laws.{other-kind, that-kind}
use Rattle.report.proofs.Steps.{none_yet, step_fits, one_more, stops, passed}
use Rattle.report.proofs.put_steps.Goals as goal

pub loop-w-init : goal.loop-w-init
loop-w-init c =
    let a = c.args in
    none_yet a.out.now a.at a.path.now

pub returns-then-ne : goal.returns-then-ne
returns-then-ne c =
    let l = c.loop-w in
    let a = c.args in
    stops a.out.now a.at a.path.now l.out l.place l.w-index l.invariant c.requires (omega arith) (other-kind STEP c.of.ensures c.ne.ensures c.if-ne.true)

pub put_field-place-requires : goal.put_field-place-requires
put_field-place-requires c =
    let l = c.loop-w in
    let a = c.args in
    step_fits a.out.now a.at a.path.now l.out l.place l.w-index l.invariant c.requires (omega arith) (that-kind STEP c.of.ensures c.ne.ensures c.if-ne.false) c.count.result c.count.ensures

pub loop-w-preserved : goal.loop-w-preserved
loop-w-preserved c =
    let l = c.loop-w in
    let a = c.args in
    one_more a.out.now a.at a.path.now l.out l.place l.w-index l.invariant c.requires (omega arith) (that-kind STEP c.of.ensures c.ne.ensures c.if-ne.false) c.count.result c.count.ensures c.put_field-place.ensures c.put_field-place.auto.out

pub returns : goal.returns
returns c =
    let l = c.loop-w in
    let a = c.args in
    passed a.out.now a.at a.path.now l.out l.place l.w-index l.invariant c.requires (omega arith)
