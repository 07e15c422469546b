use mathlib.Core.Path.{◌≡◌, sym, ◌∙◌}
use mathlib.Core.Bool.{true}
use Prim.Native.Nat.{◌<◌}
use native.Mathlib.Omega.{arith}
use mir.Syntax.{w64}
use mir.Val.{SFits}
use mir.Facts.{to_z-of_z}
use borrow.Author.Tests.{eq-eqb, ne_eqb}
use Rattle.words.specs.Words.{bits}
use Rattle.words.specs.Words.{TERM}
use Rattle.words.proofs.Laws.{other-kind, that-kind}
use Rattle.grammar.proofs.TermLaws.{term_allowed}
use Rattle.feed.proofs.Laws.{allowed_between, other-later, unnamed-term, bad-term, written-term}
use borrow.Author.Rules.{rules}
use Rattle.feed.proofs.later.Goals as goal
use Rattle.feed.proofs.later.Goals.{After-variable-v}

allowed : (c : After-variable-v) → let s = c.before.before.before.before.before.before.before.before.args in term_allowed s.kept.low s.kept.vars s.w ≡ true
allowed c = sym c.before.before.term_allowed.ensures ∙ c.before.if-not-term_allowed.false

-- so the variable is one of the eight
below : (c : After-variable-v) → c.variable-v.result < 8
below c =
    let s = c.before.before.before.before.before.before.before.before in
    let l = allowed_between s.args.kept.low s.args.kept.vars s.args.w (allowed c) in
    let few = s.requires.1 in
    omega (arith, l.1, c.variable-v.ensures)

pub returns-then-ne : goal.returns-then-ne
returns-then-ne c =
    sym (other-later c.args.kept c.args.coef.now c.requires.0 c.args.w (other-kind TERM c.of.ensures c.ne.ensures c.if-ne.true))

pub returns-then-w-ne0 : goal.returns-then-w-ne0
returns-then-w-ne0 c =
    rw c.refused.ensures (sym (unnamed-term c.args.kept c.args.coef.now c.requires.0 c.args.w (that-kind TERM c.of.ensures c.ne.ensures c.if-ne.false)
    (ne_eqb _ _ c.if-w-ne0.true)))

pub returns-then-not-term_allowed : goal.returns-then-not-term_allowed
returns-then-not-term_allowed c =
    rw c.refused-then-not-term_allowed.ensures (sym (bad-term c.args.kept c.args.coef.now c.requires.0 c.args.w (that-kind TERM c.of.ensures c.ne.ensures c.if-ne.false)
    (eq-eqb (bits 23 16 c.args.w) 0 c.if-w-ne0.false) (sym c.term_allowed.ensures ∙ c.if-not-term_allowed.true)))

pub bounds-coef-v : goal.bounds-coef-v
bounds-coef-v c = below (goal.at.bounds-coef-v c).After-variable-v

pub returns : goal.returns
returns c =
    let f : SFits w64 c.coefficient.result = search rules in
    let g : SFits w64 c.args.kept.constant = search rules in
    written-term c.args.kept c.args.coef.now c.requires.0 c.args.w (that-kind TERM c.of.ensures c.ne.ensures c.if-ne.false)
    _ _ _ _ _ (eq-eqb (bits 23 16 c.args.w) 0 c.if-w-ne0.false) (allowed (goal.at.returns c).After-variable-v)
    (omega arith) (omega (arith, c.variable-v.ensures)) c.variable-v.ensures (to_z-of_z f ∙ c.coefficient.ensures) (to_z-of_z g)
