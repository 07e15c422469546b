use Rattle.std.proofs.Common.{◌≡◌, ◌<◌, ◌∙◌, length, sym, arith, Some, None}
use Rattle.std.proofs.lemmas.List.{length-take-le}
use Rattle.std.proofs.lemmas.Result.{err_from_is_err_and}
use Rattle.words.specs.declared.Refusal.TheVariants.{Sum, Nodes}
use Rattle.lemmas.specs.Sources.{the_program}
use Rattle.ask.proofs.Asking.{Program-read, program-read}
use Rattle.tables.specs.Tabled.{the_lemmas}
use Rattle.tables.specs.Off.{first_off}
use Rattle.survey.proofs.Surveying.{listed-few, begun, sum-off, too_many, complete, masks-long, actions-few}
use Rattle.survey.proofs.survey.Goals as goal
use Rattle.survey.proofs.survey.Goals.{In_ok-image}

known : (c : In_ok-image) → Program-read c.args.words.now c.in_ok-image.image
known c = program-read c.args.words.now c.in_ok-image.ensures

-- found alone; written out, and first, so that an edit is refused here
pub returns-in_err-count : goal.returns-in_err-count
returns-in_err-count c =
    let k = known (goal.at.returns-in_err-count c).In_ok-image in
    let ls = the_lemmas (the_program c.args.words.now) c.args.lemmas.now in
    let off = first_off (the_program c.args.words.now) ls in
    let why : c.in_err-count.field-0.0 ≡ Sum off = search c.in_err-count.ensures in
    let low : off < length ls = search c.in_err-count.ensures in
    let p = err_from_is_err_and c.from_residual-in_err-count.result c.from_residual-in_err-count.ensures.1 in
    rw (p.1, p.2, why) (sum-off c.args.words.now c.args.lemmas.now k c.args.scratch.now _ _ c.in_ok-listed.ensures c.args.graph.now low)

pub invariant_of-loaded : goal.invariant_of-loaded
invariant_of-loaded c = record { held = (known (goal.at.invariant_of-loaded c).In_ok-image).held }

pub slice_bounds-tabulate-end : goal.slice_bounds-tabulate-end
slice_bounds-tabulate-end c =
    let few = listed-few c.args.words.now c.args.lemmas.now (known (goal.at.slice_bounds-tabulate-end c).In_ok-image) c.args.scratch.now _ _ c.in_ok-listed.ensures in
    omega arith

pub slice_bounds-tabulate-end-2 : goal.slice_bounds-tabulate-end-2
slice_bounds-tabulate-end-2 c =
    let few = listed-few c.args.words.now c.args.lemmas.now (known (goal.at.slice_bounds-tabulate-end-2 c).In_ok-image) c.args.scratch.now _ _ c.in_ok-listed.ensures in
    sym (length-take-le _ _ (omega arith))

pub tabulate-requires : goal.tabulate-requires
tabulate-requires c =
    let k = known (goal.at.tabulate-requires c).In_ok-image in
    let few = listed-few c.args.words.now c.args.lemmas.now k c.args.scratch.now _ _ c.in_ok-listed.ensures in
    (begun c.args.words.now c.args.lemmas.now k c.args.scratch.now _ _ c.in_ok-listed.ensures (omega arith) (omega arith), omega arith)

pub masks-kept-requires : goal.masks-kept-requires
masks-kept-requires c =
    let h = (known (goal.at.masks-kept-requires c).In_ok-image).held in
    (the_program c.args.words.now, h.accepted.good, h.same)

pub explore-requires : goal.explore-requires
explore-requires c =
    let k = known (goal.at.explore-requires c).In_ok-image in
    let p = the_program c.args.words.now in
    (masks-long p (c.masks-kept.ensures p k.held.same), omega arith, omega arith, actions-few c.args.words.now c.args.lemmas.now k)

pub returns-in_err-nodes : goal.returns-in_err-nodes
returns-in_err-nodes c =
    let k = known (goal.at.returns-in_err-nodes c).In_ok-image in
    let none : c.explore.result ≡ None = grind arith in
    let why : c.in_err-nodes.field-0.0 ≡ Nodes = grind arith in
    let p = err_from_is_err_and c.from_residual-in_err-nodes.result c.from_residual-in_err-nodes.ensures.1 in
    rw (p.1, p.2, why)
    (too_many c.args.words.now c.args.lemmas.now k c.args.scratch.now _ _ c.in_ok-listed.ensures c.args.graph.now c.in_ok-count.ensures (c.masks-kept.ensures _ k.held.same) c.explore.ensures.1 (sym none ∙ c.explore.ensures.0))

pub returns : goal.returns
returns c =
    let k = program-read c.args.words.now c.in_ok-image.ensures in
    let some : c.explore.result ≡ Some (c.in_ok-nodes.nodes, c.in_ok-nodes.edges) = grind arith in
    complete c.args.words.now c.args.lemmas.now k c.args.scratch.now _ _ c.in_ok-listed.ensures c.args.graph.now c.in_ok-count.ensures (c.masks-kept.ensures _ k.held.same) c.explore.ensures.1 (sym some ∙ c.explore.ensures.0)
