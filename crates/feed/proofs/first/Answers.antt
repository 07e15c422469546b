use mathlib.Core.Path.{sym, ◌∙◌}
use mir.Syntax.{w64}
use mir.Val.{SFits}
use mir.Facts.{to_z-of_z}
use Rattle.words.specs.Words.{ROW}
use Rattle.words.proofs.Laws.{other-kind, that-kind}
use Rattle.feed.proofs.Laws.{other-first, bad-row, good-row}
use borrow.Author.Rules.{rules}
use Rattle.feed.proofs.first.Goals as goal

pub returns-then-ne : goal.returns-then-ne
returns-then-ne c a =
    rw c.refused.ensures (sym (other-first c.args.kept a c.requires c.args.w (other-kind ROW c.of.ensures c.ne.ensures c.if-ne.true)))

pub returns-then-not-constant_allowed : goal.returns-then-not-constant_allowed
returns-then-not-constant_allowed c a =
    rw c.refused-then-not-constant_allowed.ensures (sym (bad-row c.args.kept a c.requires c.args.w (that-kind ROW c.of.ensures c.ne.ensures c.if-ne.false)
    (sym c.constant_allowed.ensures ∙ c.if-not-constant_allowed.true)))

pub returns : goal.returns
returns c a =
    let f : SFits w64 c.constant.result = search rules in
    rw (to_z-of_z f, c.constant.ensures) (sym (good-row c.args.kept a c.requires c.args.w (that-kind ROW c.of.ensures c.ne.ensures c.if-ne.false)
    (sym c.constant_allowed.ensures ∙ c.if-not-constant_allowed.false)))
