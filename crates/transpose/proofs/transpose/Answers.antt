-- One stage after the other: `Part` from 64 columns to 1.
use Rattle.transpose.proofs.Stages.{part-next, start, end, turn_32, turn_16, turn_8, turn_4, turn_2, turn_1}
use Rattle.transpose.proofs.transpose.Goals as goal

pub returns : goal.returns
returns c =
    let a = c.args.a in
    let p1 = part-next a turn_32 (start a) c.stage-b.ensures in
    let p2 = part-next a turn_16 p1 c.stage-c.ensures in
    let p3 = part-next a turn_8 p2 c.stage-d.ensures in
    let p4 = part-next a turn_4 p3 c.stage-e.ensures in
    let p5 = part-next a turn_2 p4 c.stage-f.ensures in
    let p6 = part-next a turn_1 p5 c.stage.ensures in
    end a c.stage.ensures.long p6
