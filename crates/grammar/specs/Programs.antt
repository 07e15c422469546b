-- Programs as plain values.
--
-- Assignment — a variable and the row of its new value
-- Action     — guard rows and assignments
-- Program    — ranges, start rows, predicates, actions and forbidden combinations
use Rattle.std.specs.Prelude.{List, ℕ}
use Rattle.words.specs.declared.Literals.{Literals}
use Rattle.rows.specs.declared.Row.{Row}
use Rattle.rows.specs.declared.Range.{Range}

pub record Assignment : Type 0 where
  pub variable : ℕ
  pub row : Row

pub record Action : Type 0 where
  pub guards : List Row
  pub sets : List Assignment

pub record Program : Type 0 where
  pub ranges : List Range
  pub start : List Row
  pub predicates : List Row
  pub actions : List Action
  pub forbidden : List Literals
