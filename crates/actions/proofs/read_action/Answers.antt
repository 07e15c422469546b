use mathlib.Core.Path.{◌≡◌}
use mathlib.Core.List.{List}
use Prim.Native.Nat.{ℕ, ◌≤◌}
use native.Mathlib.Omega.{arith}
use lib.ListN.{get_or}
use Rattle.std.specs.Prelude.{Result, Ok}
use Rattle.reader.proofs.Laws.{handed-back}
use Rattle.words.specs.Words.{bits}
use Rattle.words.specs.declared.Refusal.{Refusal}
use Rattle.rows.specs.declared.Row.{Row}
use Rattle.actions.proofs.ActionParts.{headWord, action-refused, guards-within, few-guards, guardRows, guards-refused, sets-within, sets-refused, action-taken}
use Rattle.actions.proofs.read_action.Goals as goal
use Rattle.actions.proofs.read_action.Goals.{In_ok-start, In_ok-guard}

start-is : (c : In_ok-start) → let s = c.args in Ok c.in_ok-start.start ≡ headWord s.vars c.requires.0 s.room s.words.now s.at
start-is c = rw (c.few_enough-few.ensures, c.assignments-assignments.ensures, c.guards-guards.ensures.0, c.word_at-w.ensures) at c.in_ok-start.ensures

guard-is : (c : In_ok-guard) → let s = c.args in
    ◌≡◌ {A = Result (List Row × ℕ) Refusal} (Ok (c.in_ok-guard.guard, c.in_ok-guard.next)) (guardRows s.vars c.requires.0 s.room s.words.now s.at c.in_ok-start.start)
guard-is c = rw (c.guards-guards.ensures.0, c.word_at-w.ensures) at c.in_ok-guard.ensures

pub returns-in_err-start : goal.returns-in_err-start
returns-in_err-start c =
    let s = c.args in
    let e = rw (c.few_enough-few.ensures, c.assignments-assignments.ensures, c.guards-guards.ensures.0, c.word_at-w.ensures) at c.in_err-start.ensures in
    handed-back c.from_residual.result c.from_residual.ensures.1 (action-refused s.vars c.requires.0 s.room s.words.now s.at e)

pub read_rows-requires : goal.read_rows-requires
read_rows-requires c =
    let s = c.args in
    let e = start-is (goal.at.read_rows-requires c).In_ok-start in
    let few : bits 7 4 (get_or s.words.now s.at 0) ≤ 8 = few-guards s.vars c.requires.0 s.room s.words.now s.at e in
    (c.requires.0, rw (c.guards-guards.ensures.0, c.word_at-w.ensures) (omega arith), guards-within s.vars c.requires.0 s.room s.words.now s.at e)

pub returns-in_err-guard : goal.returns-in_err-guard
returns-in_err-guard c =
    let s = c.args in
    let e = start-is (goal.at.returns-in_err-guard c).In_ok-start in
    let f = rw (c.guards-guards.ensures.0, c.word_at-w.ensures) at c.in_err-guard.ensures in
    handed-back c.from_residual-in_err-guard.result c.from_residual-in_err-guard.ensures.1 (guards-refused s.vars c.requires.0 s.room s.words.now s.at e f)

pub read_sets-requires : goal.read_sets-requires
read_sets-requires c =
    let s = c.args in
    let place = goal.at.read_sets-requires c in
    (c.requires.0, sets-within s.vars c.requires.0 s.room s.words.now s.at (start-is place.In_ok-start) (guard-is place.In_ok-guard))

pub returns-in_err-rows : goal.returns-in_err-rows
returns-in_err-rows c =
    let s = c.args in
    let place = goal.at.returns-in_err-rows c in
    let g = rw (c.assignments-assignments.ensures, c.word_at-w.ensures) at c.in_err-rows.ensures in
    handed-back c.from_residual-in_err-rows.result c.from_residual-in_err-rows.ensures.1 (sets-refused s.vars c.requires.0 s.room s.words.now s.at (start-is place.In_ok-start) (guard-is place.In_ok-guard) g)

pub returns : goal.returns
returns c =
    let s = c.args in
    let place = goal.at.returns c in
    let g = rw (c.assignments-assignments.ensures, c.word_at-w.ensures) at c.in_ok-rows.ensures in
    rw (c.guards-guards.ensures.0, c.word_at-w.ensures) (action-taken s.vars c.requires.0 s.room s.words.now s.at (start-is place.In_ok-start) (guard-is place.In_ok-guard) g)
