use mathlib.Core.Path.{sym, ◌∙◌}
use native.Mathlib.Omega.{arith}
use Rattle.programs.specs.Calls.{action_part}
use Rattle.programs.proofs.Answers.{Found, found, no_program, no_action_k, place_found}
use Rattle.programs.proofs.part_place.Goals as goal
use Rattle.programs.proofs.part_place.Goals.{Else-image-k}

found_at : (c : Else-image-k) → Found c.args.words.now c.args.k c.in-Ok.image (action_part c.args.words.now c.args.k)
found_at c = found c.args.words.now c.args.k c.in-Ok.ensures c.if-image-k.false

pub returns-in_default : goal.returns-in_default
returns-in_default c =
    let all = no_program c.args.words.now c.args.k c.in_default.ensures in record { place = all.0; part = all.1 }

pub returns-then-image-k : goal.returns-then-image-k
returns-then-image-k c =
    let all = no_action_k c.args.words.now c.args.k c.in-Ok.ensures c.if-image-k.true in record { place = all.0; part = all.1 }

pub offset_bounds-image-k : goal.offset_bounds-image-k
offset_bounds-image-k c = let f = found_at (goal.at.offset_bounds-image-k c).Else-image-k in omega (arith, f.small)

pub bounds-image-k : goal.bounds-image-k
bounds-image-k c = (found_at (goal.at.bounds-image-k c).Else-image-k).small

pub read_action-requires : goal.read_action-requires
read_action-requires c = let f = found_at (goal.at.read_action-requires c).Else-image-k in (f.few, f.begin)

pub unwrap-end-requires : goal.unwrap-end-requires
unwrap-end-requires c = rw c.read_action.ensures (found_at (goal.at.unwrap-end-requires c).Else-image-k).there

pub overflow_sub-result : goal.overflow_sub-result
overflow_sub-result c = omega (arith, ((found_at (goal.at.overflow_sub-result c).Else-image-k).ends (sym c.unwrap-end.ensures ∙ c.read_action.ensures)).0)

pub returns : goal.returns
returns c =
    let ends = (found_at (goal.at.returns c).Else-image-k).ends (sym c.unwrap-end.ensures ∙ c.read_action.ensures) in
    let all = place_found c.args.words.now c.args.k c.in-Ok.ensures c.if-image-k.false ends in record { place = all.0; part = all.1 }
