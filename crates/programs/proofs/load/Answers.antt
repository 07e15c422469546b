use mathlib.Core.Path.{refl, ◌∙◌}
use mathlib.Core.List.{List}
use Prim.Native.Nat.{◌≤◌}
use native.Mathlib.Omega.{arith}
use borrow.Author.Rules.{rules}
use Rattle.reader.proofs.Laws.{handed-back}
use Rattle.words.specs.Words.{INIT, PRED}
use Rattle.rows.specs.declared.Range.{Range}
use Rattle.rows.specs.declared.Row.{Row}
use Rattle.reader.proofs.Laws.{err-out}
use Rattle.programs.proofs.Stages.{RangesAt, CountedAt, ranges-at, counted-at}
use Rattle.programs.proofs.Whole.{stop-at-ranges, start-refused, predicates-refused, load_is}
use Rattle.programs.proofs.load.Goals as goal
use Rattle.programs.proofs.load.Goals.{In_ok-ranges, In_ok-start, In_ok-preds}

first : (c : In_ok-ranges) → (gs : List Range) × RangesAt c.args.words.now c.in_ok-ranges.ranges c.in_ok-ranges.at gs
first c = ranges-at c.args.words.now c.in_ok-ranges.ensures

second : (c : In_ok-start) → (rs : List Row) × CountedAt c.args.words.now INIT 8 c.in_ok-ranges.ranges.count c.in_ok-ranges.at c.in_ok-start.start c.in_ok-start.next rs
second c =
    let (gs, t) = ranges-at c.args.words.now c.in_ok-ranges.ensures in
    counted-at c.args.words.now INIT 8 _ _ c.in_ok-start.ensures (omega (arith, t.few, t.counted)) (omega arith) refl t.here

third : (c : In_ok-preds) → (rs : List Row) × CountedAt c.args.words.now PRED 14 c.in_ok-ranges.ranges.count c.in_ok-start.next c.in_ok-preds.preds c.in_ok-preds.end rs
third c =
    let (gs, t) = ranges-at c.args.words.now c.in_ok-ranges.ensures in
    let n : c.in_ok-ranges.ranges.count ≤ 8 = omega (arith, t.few, t.counted) in
    let (rs, u) = counted-at c.args.words.now INIT 8 _ _ c.in_ok-start.ensures n (omega arith) refl t.here in
    counted-at c.args.words.now PRED 14 _ _ c.in_ok-preds.ensures n (omega arith) refl u.here

pub returns-in_err-ranges : goal.returns-in_err-ranges
returns-in_err-ranges c =
    handed-back c.from_residual.result c.from_residual.ensures.1 (rw (stop-at-ranges c.args.words.now (err-out _ _ c.in_err-ranges.ensures)) refl)

pub read_counted-requires : goal.read_counted-requires
read_counted-requires c =
    let (gs, t) = first (goal.at.read_counted-requires c).In_ok-ranges in
    (omega (arith, t.few, t.counted), search rules, t.here)

pub returns-in_err-start : goal.returns-in_err-start
returns-in_err-start c =
    let (gs, t) = first (goal.at.returns-in_err-start c).In_ok-ranges in
    handed-back c.from_residual-in_err-start.result c.from_residual-in_err-start.ensures.1 (rw (start-refused c.args.words.now t (err-out _ _ c.in_err-start.ensures)) refl)

pub read_counted-requires-2 : goal.read_counted-requires-2
read_counted-requires-2 c =
    let (gs, t) = first (goal.at.read_counted-requires-2 c).In_ok-ranges in
    let (rs, u) = second (goal.at.read_counted-requires-2 c).In_ok-start in
    (omega (arith, t.few, t.counted), search rules, u.here)

pub returns-in_err-preds : goal.returns-in_err-preds
returns-in_err-preds c =
    let (gs, t) = first (goal.at.returns-in_err-preds c).In_ok-ranges in
    let (rs, u) = second (goal.at.returns-in_err-preds c).In_ok-start in
    handed-back c.from_residual-in_err-preds.result c.from_residual-in_err-preds.ensures.1 (rw (predicates-refused c.args.words.now t u (err-out _ _ c.in_err-preds.ensures)) refl)

pub load_rest-requires : goal.load_rest-requires
load_rest-requires c =
    let (gs, t) = first (goal.at.load_rest-requires c).In_ok-ranges in
    let (rs, u) = third (goal.at.load_rest-requires c).In_ok-preds in
    (omega (arith, t.few, t.counted), omega (arith, u.few, u.counted), u.here)

pub returns : goal.returns
returns c =
    let (gs, t) = first (goal.at.returns c).In_ok-ranges in
    let (rs, u) = second (goal.at.returns c).In_ok-start in
    let (qs, v) = third (goal.at.returns c).In_ok-preds in
    c.load_rest.ensures ∙ load_is c.args.words.now t u v
