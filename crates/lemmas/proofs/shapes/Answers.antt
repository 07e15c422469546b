use mathlib.Core.Path.{◌≡◌}
use lib.ListN.{length}
use borrow.Author.Rules.{rules}
use Rattle.lemmas.specs.Sources.{shape_of}
use Rattle.lemmas.proofs.SourceLaws.{no-shape, start-shape, shape_at, shapes-alike}
use Rattle.lemmas.proofs.Slots.{slots_stored, slots-all}
use Rattle.lemmas.proofs.shapes.Goals as goal

pub returns : goal.returns
returns c =
    let long : length c.args.image.now.shapes ≡ 16 = search rules in
    λ p same few. slots-all (shape_of p) (shapes-alike p few) (slots_stored (shape_of p) c.copy_from_slice.ensures.after long (shape_at p few same) (start-shape p few same) (no-shape p few))
