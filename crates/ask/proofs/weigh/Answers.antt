use mathlib.Core.Path.{◌∙◌, ap}
use native.Mathlib.Omega.{arith}
use lib.IntN.{ℤ}
use lib.ListN.{length, drop, length-drop, length-take}
use Rattle.rows.specs.declared.Row.{Row}
use lib.Seq.{take_all}
use Prim.Native.Nat.{◌+◌, ◌-◌}
use Rattle.rows.specs.Rows.{exact}
use Rattle.lemmas.proofs.SourceLaws.{front_read}
use Rattle.ask.proofs.Weighs.{mults_start, counts-few, ranges-ready, preds-ready, index-ready, new-ready, rows-ready, rows-fit, weighed-is}
use Rattle.lemmas.specs.Sources.{the_program}
use Rattle.ask.proofs.weigh.Goals as goal

pub overflow_add-at : goal.overflow_add-at
overflow_add-at c =
    omega (arith, mults_start (the_program c.args.loaded.now.words.now) c.args.loaded.now.held.accepted.good c.args.lemmas.now c.args.at c.requires.0)

pub against-goal-requires : goal.against-goal-requires
against-goal-requires c =
    let k = index-ready c.args.loaded.now.words.now c.args.loaded.now.held c.args.lemmas.now c.args.at c.requires.0 c.word_at-w.ensures c.word_at-s.ensures c.goal.ensures c.index.ensures c.requires.1 in
    (k.0, k.1, ranges-ready c.args.loaded.now.words.now c.args.loaded.now.held c.args.lemmas.now c.args.at c.requires.0, preds-ready c.args.loaded.now.words.now c.args.loaded.now.held c.args.lemmas.now c.args.at c.requires.0, new-ready c.args.loaded.now.words.now c.args.loaded.now.held c.args.lemmas.now c.args.at c.requires.0 c.word_at-w.ensures c.word_at-s.ensures c.goal.ensures c.index.ensures c.requires.1)

pub shared_ref_as_front-rows : goal.shared_ref_as_front-rows
shared_ref_as_front-rows c =
    (counts-few c.args.loaded.now.words.now c.args.loaded.now.held c.args.lemmas.now c.args.at c.requires.0 c.word_at-w.ensures c.word_at-s.ensures c.goal.ensures c.index.ensures c.requires.1).1

pub overflow_add-mults : goal.overflow_add-mults
overflow_add-mults c =
    omega (arith, mults_start (the_program c.args.loaded.now.words.now) c.args.loaded.now.held.accepted.good c.args.lemmas.now c.args.at c.requires.0)

pub offset_bounds-lemmas-at : goal.offset_bounds-lemmas-at
offset_bounds-lemmas-at c =
    omega (arith, mults_start (the_program c.args.loaded.now.words.now) c.args.loaded.now.held.accepted.good c.args.lemmas.now c.args.at c.requires.0)

pub slice_bounds-mults-count : goal.slice_bounds-mults-count
slice_bounds-mults-count c = mults_start (the_program c.args.loaded.now.words.now) c.args.loaded.now.held.accepted.good c.args.lemmas.now c.args.at c.requires.0

pub slice_bounds-mults-start : goal.slice_bounds-mults-start
slice_bounds-mults-start c = mults_start (the_program c.args.loaded.now.words.now) c.args.loaded.now.held.accepted.good c.args.lemmas.now c.args.at c.requires.0

pub lemma_sum-sum-requires-clause-room : goal.lemma_sum-sum-requires-clause-room
lemma_sum-sum-requires-clause-room c =
    let to_end = take_all (length c.args.lemmas.now - (c.args.at + 2)) (drop (c.args.at + 2) c.args.lemmas.now) (omega (arith, length-drop (c.args.at + 2) c.args.lemmas.now)) in
    let few = counts-few c.args.loaded.now.words.now c.args.loaded.now.held c.args.lemmas.now c.args.at c.requires.0 c.word_at-w.ensures c.word_at-s.ensures c.goal.ensures c.index.ensures c.requires.1 in
    let fit = rows-fit c.args.loaded.now.words.now c.args.loaded.now.held c.args.lemmas.now c.args.at c.requires.0 c.word_at-w.ensures c.word_at-s.ensures c.goal.ensures c.index.ensures c.requires.1 c.against-goal.ensures.0 in
    (omega (arith, length-take {A = Row}), omega (arith, length-take {A = Row}), rw to_end fit)

pub lemma_sum-sum-requires-clause-by_index : goal.lemma_sum-sum-requires-clause-by_index
lemma_sum-sum-requires-clause-by_index c =
    let preds = preds-ready c.args.loaded.now.words.now c.args.loaded.now.held c.args.lemmas.now c.args.at c.requires.0 in
    let rows = rows-ready c.args.loaded.now.words.now c.args.loaded.now.held c.args.lemmas.now c.args.at c.requires.0 c.word_at-w.ensures c.word_at-s.ensures c.goal.ensures c.index.ensures c.requires.1 in
    (front_read c.args.loaded.now.image.now.preds c.args.loaded.now.image.now.pred preds, front_read c.args.source.count c.args.source.rows rows)

pub largest-requires-clause-small_ranges : goal.largest-requires-clause-small_ranges
largest-requires-clause-small_ranges c = ranges-ready c.args.loaded.now.words.now c.args.loaded.now.held c.args.lemmas.now c.args.at c.requires.0

pub returns : goal.returns
returns c =
    let to_end = take_all (length c.args.lemmas.now - (c.args.at + 2)) (drop (c.args.at + 2) c.args.lemmas.now) (omega (arith, length-drop (c.args.at + 2) c.args.lemmas.now)) in
    let sum = rw to_end at c.lemma_sum-sum.ensures.0 in
    c.largest.ensures ∙ ap (λ (z : ℤ). exact z) (weighed-is c.args.loaded.now.words.now c.args.loaded.now.held c.args.lemmas.now c.args.at c.requires.0 c.word_at-w.ensures c.word_at-s.ensures c.goal.ensures c.index.ensures c.requires.1 c.against-goal.ensures.0 sum)
