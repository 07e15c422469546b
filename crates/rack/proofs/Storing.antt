-- Storing on arrays is the rack's step of the definitions.
use mathlib.Core.Path.{◌≡◌, refl, sym, ap, ◌∙◌}
use mathlib.Core.Bool.{Bool, true, false, cond}
use mathlib.Core.List.{List, [], ◌∷◌, map}
use Prim.Native.Nat.{ℕ, zero, suc}
use native.Mathlib.Omega.{arith}
use lib.IntN.{ℤ, pos}
use lib.ListN.{length, get_or, take}
use mir.Syntax.{w32}
use mir.Val.{SFits}
use Rattle.std.specs.Prelude.{Ok}
use Rattle.rows.specs.declared.Row.{Row}
use Rattle.rows.specs.Rows.{row_value}
use Rattle.actions.specs.NewRows.{keep_rows, assigned}
use Rattle.runs.specs.declared.Begun.{Begun}
use Rattle.runs.specs.declared.Stepped.TheVariants.{Moved, NotEnabled}
use Rattle.runs.specs.Runs.{Outcome, enabled, action_of}
use Rattle.runs.specs.Guards.{first_failing}
use Rattle.runs.specs.Calls.{outcome, stay}
use Rattle.runs.specs.Values.{padded}
use Rattle.runs.proofs.Answers.{Trial, at, well-formed, action-ok}
use Rattle.runs.proofs.Guards.{none-fails}
use Rattle.runs.proofs.Tried.{new-state, same-guards}
use Rattle.sixteen.specs.Sixteen.{cut, wrapped_value}
use Rattle.sixteen.proofs.Laws.{wrapped_exact}
use Rattle.rack.specs.Rack.{rack_state, rack_call}
use Rattle.rack.specs.Values.{stored}
use Rattle.rack.proofs.Exact.{kept, inside-held, state-kept, wrapped_fits}

-- the first n rows in sixteen bits are their exact values, kept
rows-kept : (n : ℕ) (rs : List Row) (x : List ℤ) → take n (map (λ r. wrapped_value r (map cut x)) rs) ≡ map kept (take n (map (λ r. row_value r x) rs))
rows-kept zero rs x = refl
rows-kept (suc n) [] x = refl
rows-kept (suc n) (r ∷ rs) x = rw (wrapped_exact r x, rows-kept n rs x) refl

decided : (guards : List Row) (on : Bool) (s t : List ℤ) → cond on (record { answer = Ok Moved; state = t }) (stay (Ok (NotEnabled (first_failing guards s))) s)
    ≡ outcome guards (cond on (Outcome.Moved t) Outcome.NotEnabled) s
decided guards true s t = refl
decided guards false s t = refl

pub stored_is : (ws : List ℕ) (k : ℕ) (s : List ℤ) {b : Begun} → Trial ws k s b → stored b s ≡ rack_call ws k s
stored_is ws k s t =
    let p = t.program in
    let a = action_of p k in
    let good = well-formed ws k s t in
    let l = (at ws k s t).inside.long in
    let few = good.ranges.few in
    let ok = action-ok ws k s t in
    let e = rows-kept (length s) (assigned keep_rows a.sets) (padded s) ∙ ap (map kept) (new-state p k s l few ok)
    ∙ sym (state-kept a s (inside-held p good s (at ws k s t).inside)) in
    rw (t.is-begun, t.is-ready, same-guards p k s l few ok, none-fails a.guards s, e) (decided a.guards (enabled a s) s (rack_state a s))

pub all_fit : (rs : List Row) (held : List ℕ) (v : ℕ) → SFits w32 (get_or (map (λ r. wrapped_value r held) rs) v (pos 0))
all_fit [] held v = record { sfits = omega arith }
all_fit (r ∷ rs) held zero = wrapped_fits r held
all_fit (r ∷ rs) held (suc v) = all_fit rs held v
