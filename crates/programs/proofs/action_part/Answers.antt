use mathlib.Core.Path.{◌≡◌, ap}
use Prim.Native.Nat.{◌+◌, ◌-◌}
use native.Mathlib.Omega.{arith}
use Rattle.programs.specs.declared.Part.{Part}
use Rattle.programs.specs.Calls.{part_place}
use Rattle.programs.proofs.Answers.{part-of, placed_at}
use Rattle.programs.proofs.action_part.Goals as goal

pub returns : goal.returns
returns c =
    let x = c.part_place-place.result in
    let (room, words) = c.part_place-place.ensures.part in
    let long : x.start + x.length - x.start ≡ x.length = omega arith in
    let list = c.args.words in
    let k = c.args.k in
    let at = (part_place list.now k).start in
    let start : x.start ≡ at = ap (λ (y : Part). y.start) c.part_place-place.ensures.place in
    rw long record { answer = words; part = part-of list.now x.start x.length room; place = placed_at list.ref_ptr at (omega (arith, start)) }
