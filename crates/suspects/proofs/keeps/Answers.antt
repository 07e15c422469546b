-- No successor, or all places asked for.
use native.Mathlib.Omega.{arith}
use Rattle.block.proofs.Meeting.{member_below}
use Rattle.suspects.proofs.Finding.{keeps_by}
use Rattle.suspects.proofs.keeps.Goals as goal

pub meet-shown-requires : goal.meet-shown-requires
meet-shown-requires c x m = omega (arith, member_below 64 x c.args.asked (omega arith) m)

pub returns : goal.returns
returns c kept nodes es b =
    keeps_by kept nodes es c.args.asked c.args.j c.none_at.result c.meet-shown.result c.requires.0 b (c.none_at.ensures kept nodes es b) c.meet-shown.ensures
