use mathlib.Core.Path.{◌≡◌, ap}
use native.Mathlib.Omega.{arith}
use lib.ListN.{length}
use Rattle.report.specs.Report.{shown_lines, lines_of}
use Rattle.report.proofs.Short.{lines_room_lem}
use Rattle.report.proofs.Cases.{with_fresh, cut, no_room, reported, written-safe, written-shortest}
use Rattle.report.proofs.report.Goals as goal
use Rattle.report.proofs.report.Goals.{After-show-shown}

pub returns-then-lines-lt4096 : goal.returns-then-lines-lt4096
returns-then-lines-lt4096 c =
    let a = c.args in
    let said = no_room a.input.now a.lines.now (omega arith) in
    record { lines = said; cut = cut a.input.now; safe = written-safe a.input.now a.lines.now said; shortest = written-shortest a.input.now a.lines.now said }

lines_are : (c : After-show-shown) → shown_lines c.show-shown.result c.show-shown.new.path ≡ lines_of c.args.input.now
lines_are c =
    let w = c.space-words in
    let g = c.graph_list-graph in
    let p = c.path_list-path in
    let s = c.show-shown in
    with_fresh c.args.input.now w.result g.result p.result s.result s.new.path (omega (arith, w.ensures)) g.ensures.1 p.ensures.1 s.ensures.answer s.ensures.path

pub put_shown-requires : goal.put_shown-requires
put_shown-requires c = omega (arith, ap length (lines_are (goal.at.put_shown-requires c).After-show-shown), lines_room_lem c.args.input.now)

pub returns : goal.returns
returns c =
    let a = c.args in
    let said = reported a.input.now a.lines.now (omega arith) (rw (lines_are (goal.at.returns c).After-show-shown) at c.put_shown.ensures) in
    record { lines = said; cut = cut a.input.now; safe = written-safe a.input.now a.lines.now said; shortest = written-shortest a.input.now a.lines.now said }
