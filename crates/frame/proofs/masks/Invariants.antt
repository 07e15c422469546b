-- What is in the table, with what is still to come, is the whole: `Tabling`.
use mathlib.Core.Path.{◌≡◌}
use Rattle.grammar.specs.Programs.{Program}
use Rattle.programs.specs.Images.{image_of}
use Rattle.programs.proofs.Tables.{Tabling}
use Rattle.frame.specs.Masks.{mask_of}
use Rattle.frame.proofs.masks.Given as goal

abbrev pub invariant-loop-action : goal.invariant-loop-action
invariant-loop-action l = (p : Program) → l.fn.image ≡ image_of p → Tabling (mask_of p) p l.masks l.action
