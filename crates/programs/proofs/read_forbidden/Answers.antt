use mathlib.Core.Path.{sym, ◌∙◌}
use Prim.Native.Nat.{◌+◌, ◌<◌}
use native.Mathlib.Omega.{arith}
use lib.ListN.{get_or, set, replicate}
use borrow.Author.Rules.{rules}
use Rattle.reader.proofs.Laws.{handed-back}
use Rattle.words.specs.Words.{literals_of, no_literals, SETS}
use Rattle.grammar.specs.Grammar.{combination}
use Rattle.programs.specs.Images.{forbidden_from}
use Rattle.programs.proofs.ManyLaws.{Loop, begun}
use Rattle.programs.proofs.Items.{forbidden-ended, forbidden-stopped, literals-turned}
use Rattle.programs.proofs.read_forbidden.Goals as goal
use Rattle.programs.proofs.read_forbidden.Goals.{In_ok-i}

turn-of : (c : In_ok-i) → let s = c.args in let l = c.loop-w in
    (l.k < 8) × Loop SETS (combination s.preds) 8 forbidden_from s.words.now s.at (replicate 8 no_literals) (set l.literals l.k (literals_of (get_or s.words.now l.i 0))) c.in_ok-i.i (l.k + 1)
turn-of c =
    literals-turned c.args.preds c.args.words.now c.args.at c.loop-w.invariant.1 (sym c.begins.ensures ∙ c.loop-w-test.true)
    (rw (c.literals_allowed-allowed.ensures, c.word_at-w.ensures) at c.in_ok-i.ensures)

pub loop-w-init : goal.loop-w-init
loop-w-init c = (search rules, begun SETS (combination _) 8 forbidden_from c.args.words.now c.args.at (replicate 8 no_literals) (search rules))

pub returns-in_err-i : goal.returns-in_err-i
returns-in_err-i c =
    handed-back c.from_residual.result c.from_residual.ensures.1 (forbidden-stopped c.args.preds c.args.words.now c.args.at c.loop-w.invariant.1 (sym c.begins.ensures ∙ c.loop-w-test.true)
    (rw (c.literals_allowed-allowed.ensures, c.word_at-w.ensures) at c.in_err-i.ensures))

pub bounds-literals-k : goal.bounds-literals-k
bounds-literals-k c = (turn-of (goal.at.bounds-literals-k c).In_ok-i).0

pub loop-w-smaller : goal.loop-w-smaller
loop-w-smaller c = let b = turn-of (goal.at.loop-w-smaller c).In_ok-i in omega arith

pub loop-w-preserved : goal.loop-w-preserved
loop-w-preserved c = (c.loop-w.invariant.0, rw (c.of.ensures, c.word_at-w.ensures) (turn-of (goal.at.loop-w-preserved c).In_ok-i).1)

pub returns : goal.returns
returns c = forbidden-ended c.args.preds c.args.words.now c.args.at c.loop-w.invariant.1 (sym c.begins.ensures ∙ c.loop-w-test.false)
