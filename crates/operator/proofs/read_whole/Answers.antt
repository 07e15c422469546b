use Rattle.std.proofs.Common.{rules, length}
use native.Mathlib.Omega.{arith}
use Rattle.std.proofs.KnownBytes.{Consumes-nil}
use Rattle.streams.specs.declared.Way.TheVariants.{Read}
use Rattle.streams.specs.declared.Progress.TheVariants.{Going, Whole}
use Rattle.streams.proofs.Whole.{closer, within}
use Rattle.operator.proofs.Steps.{read_on, read_out, by_told, by_answer}
use Rattle.operator.proofs.read_whole.Goals as goal

pub loop-more-init : goal.loop-more-init
loop-more-init g c = (search rules, search rules, search rules, Consumes-nil _)

pub loop-more-smaller : goal.loop-more-smaller
loop-more-smaller g c =
    let l = c.loop-more in
    let v = c.in-Going in
    let room = length c.args.bytes.now in
    omega (arith, closer Read room l.done l.tries v.more v.again c.answer.result l.invariant.1 l.invariant.2 (by_answer Read room l.done l.tries c.answer.result c.next.result (Going v.more v.again) c.next.ensures v.is))

pub loop-more-preserved : goal.loop-more-preserved
loop-more-preserved g c =
    let l = c.loop-more in
    let v = c.in-Going in
    let room = length c.args.bytes.now in
    let e = by_told Read room l.done l.tries c.read-got.result c.answer.result c.next.result (Going v.more v.again) c.answer.ensures c.next.ensures v.is in
    let b = closer Read room l.done l.tries v.more v.again c.answer.result l.invariant.1 l.invariant.2 (by_answer Read room l.done l.tries c.answer.result c.next.result (Going v.more v.again) c.next.ensures v.is) in (
      search rules,
      b.1,
      b.2,
      read_on _ _ _ l.bytes c.read-got.new.buf room l.done l.tries l.invariant.0 l.invariant.1 (search rules) c.read-got.result v.more v.again l.invariant.3 c.read-got.ensures.bound c.read-got.ensures.bytes e,
    )

pub returns-in-Whole : goal.returns-in-Whole
returns-in-Whole g c =
    let l = c.loop-more in
    let v = c.in-Whole in
    let room = length c.args.bytes.now in
    let e = by_told Read room l.done l.tries c.read-got.result c.answer.result c.next.result (Whole v.n) c.answer.ensures c.next.ensures v.is in
    let fits = within Read room l.done l.tries v.n c.answer.result l.invariant.1 (by_answer Read room l.done l.tries c.answer.result c.next.result (Whole v.n) c.next.ensures v.is) in
    let came = read_out _ _ _ l.bytes c.read-got.new.buf room l.done l.tries l.invariant.0 l.invariant.1 (search rules) c.read-got.result v.n l.invariant.3 c.read-got.ensures.bound c.read-got.ensures.bytes e in
    record { room = omega (arith, fits, l.invariant.0); came = (came.0, λ less. came.1 (omega (arith, less, l.invariant.0))) }

-- nothing is said of what was read
pub returns-in-Broken : goal.returns-in-Broken
returns-in-Broken g c = record { room = tt; came = tt }
