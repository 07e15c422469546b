use native.Mathlib.Omega.{arith}
use lib.ListN.{get_or}
use Prim.Native.Nat.{◌≤◌}
use Rattle.reader.proofs.Laws.{handed-back}
use Rattle.words.specs.Words.{payload}
use Rattle.programs.proofs.Parts.{counted-refused, count-within, count-few, counted-rows-refused, counted-taken}
use Rattle.programs.proofs.read_counted.Goals as goal

pub returns-in_err-start : goal.returns-in_err-start
returns-in_err-start c =
    let s = c.args in
    handed-back c.from_residual.result c.from_residual.ensures.1 (counted-refused s.kind.0 s.most s.vars c.requires.0 s.words.now s.at (rw (c.count-count.ensures, c.word_at.ensures) at c.in_err-start.ensures))

pub read_rows-requires : goal.read_rows-requires
read_rows-requires c =
    let s = c.args in
    let e = rw (c.count-count.ensures, c.word_at.ensures) at c.in_ok-start.ensures in
    let few : payload (get_or s.words.now s.at 0) ≤ s.most = count-few s.kind.0 s.most s.vars c.requires.0 s.words.now s.at e in
    let room = c.requires.1 in
    (c.requires.0, rw (c.count-count.ensures, c.word_at.ensures) (omega arith), count-within s.kind.0 s.most s.vars c.requires.0 s.words.now s.at e)

pub returns-in_err-rows : goal.returns-in_err-rows
returns-in_err-rows c =
    let s = c.args in
    let e = rw (c.count-count.ensures, c.word_at.ensures) at c.in_ok-start.ensures in
    let f = rw (c.count-count.ensures, c.word_at.ensures) at c.in_err-rows.ensures in
    handed-back c.from_residual-in_err-rows.result c.from_residual-in_err-rows.ensures.1 (counted-rows-refused s.kind.0 s.most s.vars c.requires.0 s.words.now s.at e f)

pub returns : goal.returns
returns c =
    let s = c.args in
    let e = rw (c.count-count.ensures, c.word_at.ensures) at c.in_ok-start.ensures in
    let f = rw (c.count-count.ensures, c.word_at.ensures) at c.in_ok-rows.ensures in
    rw (c.count-count.ensures, c.word_at.ensures) (counted-taken s.kind.0 s.most s.vars c.requires.0 s.words.now s.at e f)
