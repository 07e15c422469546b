use Rattle.std.proofs.Common.{◌≡◌, arith, rules, replicate, length}
use Rattle.verdict.specs.Verdicts.{findings}
use Rattle.findings.proofs.Listing.{too_short, none-laid, all_laid}
use Rattle.findings.proofs.list_all.Goals as goal

pub returns-then-room-needed : goal.returns-then-room-needed
returns-then-room-needed c = λ p ls g J gl. too_short (findings p ls g) gl c.args.list.now (c.lay-needed.ensures p ls g J) c.if-room-needed.true

pub returns-then-needed-gt0 : goal.returns-then-needed-gt0
returns-then-needed-gt0 c = λ p ls g J gl.
    let zeros : c.fill.new.self ≡ replicate (length c.args.list.now) 0 = search rules in
    all_laid (findings p ls g) gl c.args.list.now (c.lay-needed.ensures p ls g J) c.if-room-needed.false zeros (c.lay.ensures p ls g J)

pub returns-else-needed-gt0 : goal.returns-else-needed-gt0
returns-else-needed-gt0 c = λ p ls g J gl.
    let zeros : c.fill.new.self ≡ replicate (length c.args.list.now) 0 = search rules in
    none-laid (findings p ls g) gl c.args.list.now (c.lay-needed.ensures p ls g J) c.if-room-needed.false zeros (omega arith)
