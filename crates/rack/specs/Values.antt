-- What the code does with an action that was begun. Only contracts of functions within the crate cite this.
--
-- stored — trying it on what the rack holds: the same as `rack_step`, on arrays
use Rattle.std.specs.Prelude.{Ok, cond, List, map, ℤ, pos, length, take}
use Rattle.std.specs.Int.Signed.{le_z}
use Rattle.runs.specs.declared.Begun.{Begun}
use Rattle.runs.specs.declared.Stepped.TheVariants.{Moved, NotEnabled}
use Rattle.runs.specs.Calls.{Stepping, stay}
use Rattle.runs.specs.Values.{lacking}
use Rattle.sixteen.specs.Sixteen.{cut, wrapped_value}

abbrev pub stored : Begun → List ℤ → Stepping
stored b s =
    cond (le_z (pos 0) (lacking b).value)
    (record { answer = Ok Moved; state = take (length s) (map (λ r. wrapped_value r (map cut b.old)) b.rows) }) (stay (Ok (NotEnabled (lacking b))) s)
