use mathlib.Core.Path.{◌∙◌, ap}
use native.Mathlib.Omega.{arith}
use lib.ListN.{replicate}
use Rattle.lemmas.specs.Sources.{the_program}
use Rattle.ask.specs.Calls.{weighed}
use Rattle.ask.proofs.Asking.{Program-read, program-read, Lemmas-read, lemmas-read, place-few, is-lemma, answered}
use Rattle.ask.proofs.ask.Goals as goal
use Rattle.ask.proofs.ask.Goals.{In_ok-image, In_ok-count}

known : (c : In_ok-image) → Program-read c.args.words.now c.in_ok-image.image
known c = program-read c.args.words.now c.in_ok-image.ensures

pub invariant_of-loaded : goal.invariant_of-loaded
invariant_of-loaded c = record { held = (known (goal.at.invariant_of-loaded c).In_ok-image).held }

-- the lemmas that were read
abbrev Listed : In_ok-count → Type 0
Listed c =
    let k = program-read c.args.words.now c.in_ok-image.ensures in
    Lemmas-read c.args.words.now (the_program c.args.words.now) k.is k.held.accepted.good c.args.lemmas.now (replicate 512 0) c.list.new.begins c.args.k c.in_ok-count.count

listed : (c : In_ok-count) → Listed c
listed c =
    let k = program-read c.args.words.now c.in_ok-image.ensures in
    lemmas-read c.args.words.now (the_program c.args.words.now) k.is k.held.accepted.good c.args.lemmas.now (replicate 512 0) c.list.new.begins c.args.k c.in_ok-count.ensures

pub bounds-begins-k : goal.bounds-begins-k
bounds-begins-k c =
    let k = program-read c.args.words.now c.in_ok-image.ensures in
    place-few c.args.words.now (the_program c.args.words.now) k.is k.held.accepted.good c.args.lemmas.now (replicate 512 0) c.list.new.begins c.args.k (listed (goal.at.bounds-begins-k c).In_ok-count) (omega arith) c.if-count-k.false

pub offset_bounds-begins-k : goal.offset_bounds-begins-k
offset_bounds-begins-k c =
    let k = program-read c.args.words.now c.in_ok-image.ensures in
    let few = place-few c.args.words.now (the_program c.args.words.now) k.is k.held.accepted.good c.args.lemmas.now (replicate 512 0) c.list.new.begins c.args.k (listed (goal.at.offset_bounds-begins-k c).In_ok-count) (omega arith) c.if-count-k.false in
    omega arith

pub weigh_one-requires : goal.weigh_one-requires
weigh_one-requires c =
    let k = program-read c.args.words.now c.in_ok-image.ensures in
    is-lemma c.args.words.now (the_program c.args.words.now) k.is k.held.accepted.good c.args.lemmas.now (replicate 512 0) c.list.new.begins c.args.k (listed (goal.at.weigh_one-requires c).In_ok-count) (omega arith) c.if-count-k.false

pub returns : goal.returns
returns c =
    let k = program-read c.args.words.now c.in_ok-image.ensures in
    let all = answered c.args.words.now (the_program c.args.words.now) k.is k.held.accepted.good c.args.lemmas.now (replicate 512 0) c.list.new.begins c.args.k (listed (goal.at.returns c).In_ok-count) (omega arith) c.if-count-k.false (c.answer.ensures ∙ ap (weighed c.args.k) c.weigh_one.ensures) in
    record { answer = all.0; truth = all.1 }
