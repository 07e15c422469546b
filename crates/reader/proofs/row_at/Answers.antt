use mathlib.Core.Path.{◌≡◌, ap, ◌∙◌}
use Prim.Native.Nat.{◌-◌}
use native.Mathlib.Omega.{arith}
use lib.ListN.{length, take, drop, length-drop}
use lib.Seq.{take_all}
use Rattle.feed.specs.Steps.{fed, begun}
use Rattle.feed.proofs.Feeding.{fed-row}
use Rattle.reader.specs.Results.{row_read}
use Rattle.reader.proofs.row_at.Goals as goal

pub returns : goal.returns
returns c =
    let ws = c.args.words.now in
    let i = c.args.at in
    let vars = c.args.vars in
    let whole : take (length ws - i) (drop i ws) ≡ drop i ws = take_all (length ws - i) (drop i ws) (simp length-drop (omega arith)) in
    let steps : c.read_row.result ≡ row_read (fed (begun vars i) (drop i ws)) = rw whole at c.read_row.ensures in
    (steps ∙ ap row_read (fed-row vars c.requires.0 i (drop i ws)), steps)
