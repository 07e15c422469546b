use mathlib.Core.Path.{◌≡◌, refl, sym}
use native.Mathlib.Omega.{arith}
use borrow.Author.Tests.{lt-ltb, le-ltb}
use lib.ListN.{length}
use Rattle.std.specs.Prelude.{Err}
use Rattle.std.proofs.lemmas.Result.{err_from_is_err_and}
use Rattle.words.specs.declared.Refusal.TheVariants.{Short}
use Rattle.records.specs.Records.{graph_words}
use Rattle.verdict.specs.Verdicts.{path_words}
use Rattle.judge.specs.Calls.{judge}
use Rattle.judge.proofs.Judging.{traced-here}
use Rattle.judge.proofs.Promised.{surveyed-demand2}
use Rattle.judge.proofs.Whole.{judged}
use Rattle.judge.proofs.judge.Goals as goal

-- The check finds these two alone; they are written out, and first, so that an edit is refused here.
pub returns-then-graph-lt-ROOM-clause-answer : goal.returns-then-graph-lt-ROOM-clause-answer
returns-then-graph-lt-ROOM-clause-answer c = rw (lt-ltb (length c.args.graph.now) graph_words (omega arith)) refl

pub returns-then-path-lt-PATH_ROOM-clause-answer : goal.returns-then-path-lt-PATH_ROOM-clause-answer
returns-then-path-lt-PATH_ROOM-clause-answer c =
    let a = c.args in
    let is : (judge a.words.now a.lemmas.now a.graph.now a.path.now).answer ≡ Err (Short 1) =
    rw (le-ltb (length a.graph.now) graph_words (omega arith), lt-ltb (length a.path.now) path_words (omega arith)) refl in
    sym is

pub returns-in_err-surveyed-clause-demand2 : goal.returns-in_err-surveyed-clause-demand2
returns-in_err-surveyed-clause-demand2 c =
    let p = err_from_is_err_and c.from_residual.result c.from_residual.ensures.1 in
    rw (p.1, p.2) (surveyed-demand2 c.args.words.now c.args.lemmas.now c.args.graph.now c.args.path.now _ c.in_err-surveyed.ensures)

pub returns : goal.returns
returns c =
    let w = c.in_ok-surveyed.ensures in
    let r = w.ready in
    let v = c.judge_graph.ensures _ _ w.made (c.case_of-case.ensures _ _ w.made r) (traced-here r) r.edges_are in
    let all = judged c.args.words.now c.args.lemmas.now c.args.graph.now c.args.path.now c.if-graph-lt-ROOM.false c.if-path-lt-PATH_ROOM.false w v in
    record { answer = all.answer; graph = all.graph; path = all.path; demand2 = all.demand2; demand3 = all.demand3; shortest = all.shortest }
