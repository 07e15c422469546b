use Rattle.std.proofs.Common.{rules, length}
use native.Mathlib.Omega.{arith}
use Rattle.std.proofs.KnownBytes.{Appends-nil}
use Rattle.streams.specs.declared.Way.TheVariants.{Write}
use Rattle.streams.specs.declared.Progress.TheVariants.{Going, Whole}
use Rattle.streams.proofs.Whole.{closer}
use Rattle.operator.proofs.Steps.{write_on, write_out, write_broken, by_told, by_answer}
use Rattle.operator.proofs.write_whole.Goals as goal

pub loop-more-init : goal.loop-more-init
loop-more-init g c = (search rules, search rules, Appends-nil _)

pub loop-more-smaller : goal.loop-more-smaller
loop-more-smaller g c =
    let l = c.loop-more in
    let v = c.in-Going in
    let room = length c.args.lines.now in
    omega (arith, closer Write room l.done l.tries v.more v.again c.answer.result l.invariant.0 l.invariant.1 (by_answer Write room l.done l.tries c.answer.result c.next.result (Going v.more v.again) c.next.ensures v.is))

pub loop-more-preserved : goal.loop-more-preserved
loop-more-preserved g c =
    let l = c.loop-more in
    let v = c.in-Going in
    let room = length c.args.lines.now in
    let e = by_told Write room l.done l.tries c.write-got.result c.answer.result c.next.result (Going v.more v.again) c.answer.ensures c.next.ensures v.is in
    let b = closer Write room l.done l.tries v.more v.again c.answer.result l.invariant.0 l.invariant.1 (by_answer Write room l.done l.tries c.answer.result c.next.result (Going v.more v.again) c.next.ensures v.is) in
    (b.1, b.2, write_on _ _ _ c.args.lines.now l.done l.tries c.write-got.result v.more v.again l.invariant.2 c.write-got.ensures.bytes e)

pub returns-in-Whole : goal.returns-in-Whole
returns-in-Whole g c =
    let l = c.loop-more in
    let v = c.in-Whole in
    let room = length c.args.lines.now in
    let e = by_told Write room l.done l.tries c.write-got.result c.answer.result c.next.result (Whole v.field-0) c.answer.ensures c.next.ensures v.is in
    write_out _ _ _ c.args.lines.now l.done l.tries c.write-got.result v.field-0 l.invariant.2 c.write-got.ensures.bytes e

pub returns-in-Broken : goal.returns-in-Broken
returns-in-Broken g c =
    let l = c.loop-more in
    write_broken _ _ _ c.args.lines.now l.done l.tries c.write-got.result l.invariant.2 c.write-got.ensures.bytes
