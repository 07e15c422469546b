use mathlib.Core.Path.{refl, ◌∙◌}
use native.Mathlib.Omega.{arith}
use lib.ListN.{length}
use Rattle.std.proofs.lemmas.Slice.{put_mid-paste}
use Rattle.lines.proofs.Puts.{copied}
use Rattle.lines.proofs.put_bytes.Goals as goal

pub returns : goal.returns
returns c =
    let a = c.args in
    record {
      there = put_mid-paste _ _ _ _ a.text.now (length a.text.now) c.copy_from_slice.ensures.after (omega arith) refl ∙ copied a.out.now a.at a.text.now;
      ends = refl;
    }
