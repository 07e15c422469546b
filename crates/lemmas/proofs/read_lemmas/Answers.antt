use mathlib.Core.Path.{sym, ◌∙◌}
use Prim.Native.Nat.{◌+◌, ◌<◌}
use native.Mathlib.Omega.{arith}
use lib.ListN.{set, length-set}
use Rattle.std.proofs.lemmas.Result.{err_from_is_err_and}
use Rattle.words.specs.Words.{LEMMA}
use Rattle.programs.proofs.ManyLaws.{Loop}
use Rattle.lemmas.specs.LemmaGrammar.{lemma}
use Rattle.lemmas.specs.Sources.{the_program}
use Rattle.lemmas.proofs.ListLaws.{begins_from, lemmas-ended, lemmas-stopped, lemma-turned}
use Rattle.lemmas.proofs.read_lemmas.Goals as goal
use Rattle.lemmas.proofs.read_lemmas.Goals.{In_ok-next}

turn-of : (c : In_ok-next) → let s = c.args in
    (c.loop-begins.k < 512) × Loop LEMMA (lemma (the_program s.loaded.now.words.now)) 512 begins_from s.lemmas.now 0 s.begins.now (set c.loop-begins.begins c.loop-begins.k c.loop-begins.i) c.in_ok-next.next (c.loop-begins.k + 1)
turn-of c =
    lemma-turned (the_program c.args.loaded.now.words.now) c.args.loaded.now.held.accepted.good c.args.lemmas.now c.args.begins.now c.loop-begins.invariant.0 (sym c.begins.ensures ∙ c.loop-begins-test.true) c.in_ok-next.ensures

pub returns-in_err-next : goal.returns-in_err-next
returns-in_err-next c =
    let p = err_from_is_err_and c.from_residual.result c.from_residual.ensures.1 in
    rw (p.1, p.2)
    (lemmas-stopped (the_program c.args.loaded.now.words.now) c.args.loaded.now.held.accepted.good c.args.lemmas.now c.args.begins.now c.loop-begins.invariant.0 (sym c.begins.ensures ∙ c.loop-begins-test.true) c.loop-begins.begins c.in_err-next.ensures)

pub bounds-begins-k : goal.bounds-begins-k
bounds-begins-k c = let t = turn-of (goal.at.bounds-begins-k c).In_ok-next in omega (arith, t.0, c.loop-begins.invariant.1, c.requires)

pub loop-begins-smaller : goal.loop-begins-smaller
loop-begins-smaller c = let t = turn-of (goal.at.loop-begins-smaller c).In_ok-next in omega (arith, t.0)

pub loop-begins-preserved : goal.loop-begins-preserved
loop-begins-preserved c =
    let l = c.loop-begins in
    ((turn-of (goal.at.loop-begins-preserved c).In_ok-next).1, length-set l.begins l.k l.i ∙ l.invariant.1)

pub returns : goal.returns
returns c =
    lemmas-ended (the_program c.args.loaded.now.words.now) c.args.loaded.now.held.accepted.good c.args.lemmas.now c.args.begins.now c.loop-begins.invariant.0 (sym c.begins.ensures ∙ c.loop-begins-test.false)
