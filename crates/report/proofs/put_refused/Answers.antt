-- Written out so that an edit that makes `returns` false is refused there.
use mathlib.Core.Path.{refl}
use Rattle.lines.specs.Text.{text}
use Rattle.lines.proofs.Puts.{line-fits}
use Rattle.report.proofs.put_refused.Goals as goal

-- a first text of the same length has the same room
pub put_line-requires : goal.put_line-requires
put_line-requires c = rw (c.number.ensures, c.value.ensures) (line-fits (text "REFUSED ") _ _ _ _ refl c.requires)

pub returns : goal.returns
returns c = rw (c.number.ensures, c.value.ensures) at c.put_line.ensures
