use mathlib.Core.Path.{◌≡◌, refl, ◌∙◌}
use mathlib.Core.Bool.{Bool, true, false}
use native.Mathlib.Omega.{arith}
use borrow.Author.Rules.{rules}
use mir.Syntax.{w64}
use mir.Val.{SFits, bool_byte}
use mir.Facts.{to_z-of_z}
use Rattle.std.proofs.lemmas.Result.{err_from_is_err_and}
use Rattle.words.specs.declared.Refusal.TheVariants.{Sum}
use Rattle.lemmas.specs.Sources.{the_program, one_if}
use Rattle.ask.proofs.Weighs.{mults_start}
use Rattle.tables.specs.Tabled.{the_lemmas}
use Rattle.tables.proofs.Filling.{filling-none, filling-all, turn-off, turn-next}
use Rattle.tables.proofs.tabulate.Goals as goal

byte_is : (b : Bool) → bool_byte b ≡ one_if b
byte_is true = refl
byte_is false = refl

pub loop-k-init : goal.loop-k-init
loop-k-init c =
    filling-none (the_program c.args.loaded.now.words.now) c.args.loaded.now.held.accepted.good c.args.lemmas.now c.args.begins.now (the_lemmas (the_program c.args.loaded.now.words.now) c.args.lemmas.now) c.requires.0 c.requires.1

pub returns-in_err-z : goal.returns-in_err-z
returns-in_err-z c =
    let off = turn-off (the_program c.args.loaded.now.words.now) c.args.loaded.now.held.accepted.good c.args.lemmas.now c.args.begins.now (the_lemmas (the_program c.args.loaded.now.words.now) c.args.lemmas.now) c.requires.0 c.loop-k.invariant c.loop-k-test.true c.weigh.ensures in
    let none = c.in_err-z.ensures.ok_part in
    let p = err_from_is_err_and c.from_residual.result c.from_residual.ensures.1 in
    let why : c.in_err-z.field-0.0 ≡ Sum c.loop-k.k = cc (rw none at c.in_err-z.ensures.value) in
    rw (p.1, p.2, why) (off none)

pub overflow_add-at : goal.overflow_add-at
overflow_add-at c =
    omega (arith, mults_start (the_program c.args.loaded.now.words.now) c.args.loaded.now.held.accepted.good c.args.lemmas.now _ (c.requires.0.here c.loop-k.k c.loop-k-test.true).0)

pub loop-k-preserved : goal.loop-k-preserved
loop-k-preserved c =
    let fits : SFits w64 c.in_ok-z.z = search rules in
    let more = rw (to_z-of_z fits) at c.from-n.ensures in
    let next = turn-next (the_program c.args.loaded.now.words.now) c.args.loaded.now.held.accepted.good c.args.lemmas.now c.args.begins.now (the_lemmas (the_program c.args.loaded.now.words.now) c.args.lemmas.now) c.requires.0 c.loop-k.invariant c.loop-k-test.true c.weigh.ensures c.in_ok-z.ensures.ok_part c.word_at-w.ensures c.word_at.ensures (more ∙ byte_is _) in
    rw c.entry.ensures next

pub returns : goal.returns
returns c =
    filling-all (the_program c.args.loaded.now.words.now) c.args.loaded.now.held.accepted.good c.args.lemmas.now c.args.begins.now (the_lemmas (the_program c.args.loaded.now.words.now) c.args.lemmas.now) c.requires.0 c.loop-k.invariant c.loop-k-test.false
