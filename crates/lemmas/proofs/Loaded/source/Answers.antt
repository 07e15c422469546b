use mathlib.Core.Path.{refl, sym, ◌∙◌}
use Rattle.lemmas.proofs.SourceLaws.{start-source, no_source, place-within, action-read, action-source}
use Rattle.lemmas.proofs.Loaded.source.Goals as goal

pub returns-then-number-eq255 : goal.returns-then-number-eq255
returns-then-number-eq255 c = start-source c.args.self.now.words.now c.args.self.now.held c.args.number c.if-number-eq255.true c.eight-rows.ensures

pub returns-then-image-number : goal.returns-then-image-number
returns-then-image-number c = no_source c.args.self.now.words.now c.args.self.now.held c.args.number c.if-number-eq255.false c.if-image-number.true

pub read_action-read-requires : goal.read_action-read-requires
read_action-read-requires c =
    let w = place-within c.args.self.now.words.now c.args.self.now.held c.args.number c.if-number-eq255.false c.if-image-number.false in (w.0, w.1)

pub unwrap-count-requires : goal.unwrap-count-requires
unwrap-count-requires c = rw (c.read_action-read.ensures, action-read c.args.self.now.words.now c.args.self.now.held c.args.number c.if-number-eq255.false c.if-image-number.false) refl

pub returns : goal.returns
returns c =
    action-source c.args.self.now.words.now c.args.self.now.held c.args.number c.if-number-eq255.false c.if-image-number.false (sym c.unwrap-count.ensures ∙ c.read_action-read.ensures) c.eight-rows-2.ensures
