-- What is in the table, with what is still to come, is the whole: `Tabling`.
use mathlib.Core.Path.{◌≡◌}
use Rattle.grammar.specs.Programs.{Program}
use Rattle.programs.specs.Images.{image_of}
use Rattle.programs.proofs.Tables.{Tabling}
use Rattle.verdict.specs.Working.{ends_of}
use Rattle.verdict.proofs.asked_ends.Given as goal

abbrev pub invariant-loop-action : goal.invariant-loop-action
invariant-loop-action l = (p : Program) → l.image ≡ image_of p → Tabling ends_of p l.asked l.action
