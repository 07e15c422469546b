use mathlib.Core.Path.{◌≡◌, refl, ◌∙◌}
use mathlib.Core.Bool.{◌&&◌}
use lib.Dec.{leb, ltb}
use lib.ListN.{get_or}
use borrow.Author.Rules.{rules}
use Rattle.reader.proofs.Laws.{handed-back}
use Rattle.grammar.proofs.ActionLaws.{set_allowed}
use Rattle.actions.proofs.SetsLoop.{set-refused, set-within, set-row-refused, set-taken}
use Rattle.actions.proofs.read_set.Goals as goal
use Rattle.actions.proofs.read_set.Goals.{After-contains-allowed}

allowed-is : (c : After-contains-allowed) → let s = c.args in c.contains-allowed.result ≡ set_allowed s.vars s.low (get_or s.words.now s.at 0)
allowed-is c =
    let e : c.contains-allowed.result ≡ (leb c.args.low c.count-variable.result && ltb c.count-variable.result c.args.vars) = search rules in
    e ∙ rw (c.count-variable.ensures, c.word_at.ensures) refl

pub returns-in_err-start : goal.returns-in_err-start
returns-in_err-start c =
    let s = c.args in
    handed-back c.from_residual.result c.from_residual.ensures.1 (set-refused s.vars s.low s.words.now s.at (rw (allowed-is (goal.at.returns-in_err-start c).After-contains-allowed) at c.in_err-start.ensures))

pub row_at-requires : goal.row_at-requires
row_at-requires c =
    let s = c.args in
    (search rules, set-within s.vars s.low s.words.now s.at (rw (allowed-is (goal.at.row_at-requires c).After-contains-allowed) at c.in_ok-start.ensures))

pub returns-in_err-row : goal.returns-in_err-row
returns-in_err-row c =
    let s = c.args in
    let e = rw (allowed-is (goal.at.returns-in_err-row c).After-contains-allowed) at c.in_ok-start.ensures in
    handed-back c.from_residual-in_err-row.result c.from_residual-in_err-row.ensures.1 (set-row-refused s.vars s.low s.words.now s.at e c.in_err-row.ensures.0)

pub returns : goal.returns
returns c =
    let s = c.args in
    let e = rw (allowed-is (goal.at.returns c).After-contains-allowed) at c.in_ok-start.ensures in
    rw (c.count-variable.ensures, c.word_at.ensures) (set-taken s.vars s.low s.words.now s.at e c.in_ok-row.ensures.0)
