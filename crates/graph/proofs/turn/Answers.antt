-- The list holds the graph after the first j actions, `Going`.
use native.Mathlib.Omega.{arith}
use Rattle.graph.specs.Graph.{answer_of}
use Rattle.graph.proofs.Turns.{begun, went, stopped, gone}
use Rattle.graph.proofs.turn.Goals as goal

pub loop-j-init : goal.loop-j-init
loop-j-init g c =
    let a = c.args in
    begun _ a.graph.now a.nodes a.edges a.k a.actions (omega arith) (omega arith) c.requires.at.0.near

pub returns-in_err-counts : goal.returns-in_err-counts
returns-in_err-counts g c =
    let a = c.args in
    let l = c.loop-j in
    rw c.from_residual.ensures
    (stopped _ a.graph.now a.nodes a.edges a.k a.actions l.graph l.counts.0 l.counts.1 l.j l.invariant (omega arith) (answer_of c.next.result) (λ f b. b l.j c.next.result (omega arith) c.next.ensures)
    c.enter_next.result c.enter_next.new.graph (omega arith) c.enter_next.ensures c.in_err-counts.was)

pub loop-j-preserved : goal.loop-j-preserved
loop-j-preserved g c =
    let a = c.args in
    let l = c.loop-j in
    went _ a.graph.now a.nodes a.edges a.k a.actions l.graph l.counts.0 l.counts.1 l.j l.invariant (omega arith) (answer_of c.next.result) (λ f b. b l.j c.next.result (omega arith) c.next.ensures)
    c.enter_next.result c.enter_next.new.graph (omega arith) c.enter_next.ensures _ _ c.in_ok-counts.was

pub returns : goal.returns
returns g c =
    let a = c.args in
    let l = c.loop-j in
    gone _ a.graph.now a.nodes a.edges a.k a.actions l.graph l.counts.0 l.counts.1 l.j l.invariant (omega arith)
