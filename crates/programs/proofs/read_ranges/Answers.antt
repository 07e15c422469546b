use mathlib.Core.Path.{◌≡◌, refl, sym, ◌∙◌}
use Prim.Native.Nat.{◌+◌, ◌<◌}
use native.Mathlib.Omega.{arith}
use lib.ListN.{get_or, set}
use mir.Syntax.{w64}
use mir.Val.{SFits}
use mir.Facts.{to_z-of_z}
use borrow.Author.Rules.{rules}
use Rattle.reader.proofs.Laws.{handed-back}
use Rattle.words.specs.Words.{VAR}
use Rattle.grammar.specs.Reading.{many}
use Rattle.grammar.specs.Grammar.{range_of, range, ranges}
use Rattle.programs.specs.Images.{ranges_from, zero_ranges}
use Rattle.programs.proofs.ManyLaws.{Loop, begun}
use Rattle.programs.proofs.Items.{no_range, some-ranges, ranges-ended, ranges-stopped, range-turned}
use Rattle.programs.proofs.read_ranges.Goals as goal
use Rattle.programs.proofs.read_ranges.Goals.{Else-not-begins, In_ok-read_word}

many_is : (c : Else-not-begins) → ranges c.args.words.now 0 ≡ many VAR range 8 c.args.words.now 0
many_is c = some-ranges c.args.words.now 0 (sym c.begins.ensures ∙ search rules)

turn-of : (c : In_ok-read_word) → let ws = c.args.words.now in let l = c.loop-w in
    (l.k < 8) × Loop VAR range 8 ranges_from ws 0 zero_ranges (set l.ranges l.k (range_of (get_or ws l.k 0))) (l.k + 1) (l.k + 1)
turn-of c =
    let fl : SFits w64 c.low_end-low.result = search rules in
    let fh : SFits w64 c.high_end-high.result = search rules in
    range-turned c.args.words.now c.loop-w.invariant (sym c.begins-in-loop-w.ensures ∙ c.loop-w-test.true)
    (rw (to_z-of_z fl, to_z-of_z fh, c.low_end-low.ensures, c.high_end-high.ensures, c.word_at-w.ensures) at c.in_ok-read_word.ensures)

pub returns-then-not-begins : goal.returns-then-not-begins
returns-then-not-begins c = rw (no_range c.args.words.now 0 (sym c.begins.ensures ∙ search rules)) refl

pub loop-w-init : goal.loop-w-init
loop-w-init c = begun VAR range 8 ranges_from c.args.words.now 0 zero_ranges (search rules)

pub returns-in_err-read_word : goal.returns-in_err-read_word
returns-in_err-read_word c =
    let fl : SFits w64 c.low_end-low.result = search rules in
    let fh : SFits w64 c.high_end-high.result = search rules in
    handed-back c.from_residual.result c.from_residual.ensures.1 (rw (many_is (goal.at.returns-in_err-read_word c).Else-not-begins)
    (ranges-stopped c.args.words.now c.loop-w.invariant (sym c.begins-in-loop-w.ensures ∙ c.loop-w-test.true)
    (rw (to_z-of_z fl, to_z-of_z fh, c.low_end-low.ensures, c.high_end-high.ensures, c.word_at-w.ensures) at c.in_err-read_word.ensures)))

pub bounds-ranges-k : goal.bounds-ranges-k
bounds-ranges-k c = (turn-of (goal.at.bounds-ranges-k c).In_ok-read_word).0

pub loop-w-smaller : goal.loop-w-smaller
loop-w-smaller c = let b = turn-of (goal.at.loop-w-smaller c).In_ok-read_word in omega arith

pub loop-w-preserved : goal.loop-w-preserved
loop-w-preserved c =
    let fl : SFits w64 c.low_end-low.result = search rules in
    let fh : SFits w64 c.high_end-high.result = search rules in
    rw (to_z-of_z fl, to_z-of_z fh, c.low_end-low.ensures, c.high_end-high.ensures, c.word_at-w.ensures) (turn-of (goal.at.loop-w-preserved c).In_ok-read_word).1

pub returns : goal.returns
returns c =
    rw (many_is (goal.at.returns c).Else-not-begins) (ranges-ended c.args.words.now c.loop-w.invariant (sym c.begins-in-loop-w.ensures ∙ c.loop-w-test.false))
