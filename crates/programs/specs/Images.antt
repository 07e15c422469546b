-- What the readers of a program's parts give, and the image of a program that the calls work on. Only contracts of functions within the
-- project cite these.
--
-- zero_ranges, ranges_from              — ranges
-- counted_read                          — rows after INIT or PRED
-- no_shape, action_shape                — how many guard rows an action has and which variables it sets; of no action
-- none_stored, actions_from             — where actions begin, and their shapes
-- forbidden_from                        — forbidden combinations
-- image_of, loaded                      — the image of a program
-- table_of                              — a number for each action of a program, 0 past the last one
-- Rest, rest, image_with, rest_loaded   — what follows the predicates, and the image with it
use Rattle.std.specs.Prelude.{List, map, ℕ, ◌+◌, length, replicate, Result, Ok, Err}
use Rattle.std.proofs.lemmas.List.Edits.{sets}
use Rattle.words.specs.Words.{no_literals, ACTION, SETS}
use Rattle.words.specs.declared.Refusal.{Refusal}
use Rattle.words.specs.declared.Literals.{Literals}
use Rattle.rows.specs.Rows.{zero_range}
use Rattle.rows.specs.declared.Range.{Range}
use Rattle.rows.specs.declared.Row.{Row}
use Rattle.grammar.specs.Reading.{Read, Reader, got, refused, pure, ◌>>=◌, many}
use Rattle.grammar.specs.Grammar.{action, combination, end}
use Rattle.grammar.specs.Programs.{Action, Program}
use Rattle.grammar.specs.Encoding.{encode_action}
use Rattle.reader.specs.Results.{outcome, zero_rows}
use Rattle.actions.specs.Results.{variables_set, none_set}
use Rattle.programs.specs.Places.{places, first_action}
use Rattle.programs.specs.declared.Ranges.{Ranges}
use Rattle.programs.specs.declared.Counted.{Counted}
use Rattle.programs.specs.declared.Shape.{Shape}
use Rattle.programs.specs.declared.Actions.{Actions}
use Rattle.programs.specs.declared.Forbidden.{Forbidden}
use Rattle.programs.specs.declared.Image.{Image}

abbrev pub zero_ranges : List Range
zero_ranges = replicate 8 zero_range

-- what is read from index i on, put behind the k ranges that are stored; likewise for actions and combinations
abbrev pub ranges_from : List Range → ℕ → ℕ → Read (List Range) → Result (Ranges × ℕ) Refusal
ranges_from gs k i m = outcome (λ rs j. (record { ranges = sets gs k rs; count = k + length rs }, j)) m

abbrev pub counted_read : Read (List Row) → Result (Counted × ℕ) Refusal
counted_read m = outcome (λ rs i. (record { rows = sets zero_rows 0 rs; count = length rs }, i)) m

abbrev pub no_shape : Shape
no_shape = record { count = 0; set = none_set }

abbrev pub action_shape : Action → Shape
action_shape a = record { count = length a.guards; set = variables_set none_set a.sets }

abbrev pub none_stored : List ℕ × List Shape
none_stored = (replicate 16 0, replicate 16 no_shape)

abbrev pub actions_from : List ℕ × List Shape → ℕ → ℕ → Read (List Action) → Result (Actions × ℕ) Refusal
actions_from s k i m =
    outcome (λ xs j. (record { begin_at = sets s.0 k (places encode_action i xs); shapes = sets s.1 k (map action_shape xs); count = k + length xs }, j)) m

abbrev pub forbidden_from : List Literals → ℕ → ℕ → Read (List Literals) → Result (Forbidden × ℕ) Refusal
forbidden_from ls k i m = outcome (λ xs j. (record { literals = sets ls k xs; count = k + length xs }, j)) m

abbrev pub image_of : Program → Image
image_of p =
    record {
      vars = length p.ranges;
      ranges = sets zero_ranges 0 p.ranges;
      starts = length p.start;
      start = sets zero_rows 0 p.start;
      preds = length p.predicates;
      pred = sets zero_rows 0 p.predicates;
      actions = length p.actions;
      action_at = sets (replicate 16 0) 0 (places encode_action (first_action p) p.actions);
      shapes = sets (replicate 16 no_shape) 0 (map action_shape p.actions);
      forbidden = length p.forbidden;
      literals = sets (replicate 8 no_literals) 0 p.forbidden;
    }

abbrev pub table_of : (Action → ℕ) → Program → List ℕ
table_of f p = sets (replicate 16 0) 0 (map f p.actions)

abbrev pub loaded : Read Program → Result Image Refusal
loaded (got p ws i) = Ok (image_of p)
loaded (refused x) = Err x

-- what follows the predicates: the actions and the forbidden combinations, up to the end
pub record Rest : Type 0 where
  pub actions : List Action
  pub forbidden : List Literals

unfoldable pub rest : ℕ → ℕ → Reader Rest
rest vars preds = do
  xs ← many ACTION (action vars) 16
  ls ← many SETS (combination preds) 8
  e ← end
  pure (record { actions = xs; forbidden = ls })

-- the image of parts that have been read
abbrev pub image_with : Ranges → Counted → Counted → List ℕ → List Shape → ℕ → List Literals → ℕ → Image
image_with gs start preds places shapes actions literals forbidden =
    record {
      vars = gs.count;
      ranges = gs.ranges;
      starts = start.count;
      start = start.rows;
      preds = preds.count;
      pred = preds.rows;
      actions = actions;
      action_at = places;
      shapes = shapes;
      forbidden = forbidden;
      literals = literals;
    }

-- the image with what was read before and what follows
abbrev pub rest_loaded : Ranges → Counted → Counted → Read Rest → ℕ → Result Image Refusal
rest_loaded gs start preds m at =
    outcome (λ r i.
    image_with gs start preds (sets (replicate 16 0) 0 (places encode_action at r.actions)) (sets (replicate 16 no_shape) 0 (map action_shape r.actions))
    (length r.actions) (sets (replicate 8 no_literals) 0 r.forbidden) (length r.forbidden)) m
