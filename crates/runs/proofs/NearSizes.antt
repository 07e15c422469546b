-- The guard row that an answer names is one of eight, and its value fits in 32 bits.
use mathlib.Core.Path.{◌≡◌, refl, subst}
use mathlib.Core.List.{List, [], ◌∷◌, ◌++◌, append-nil}
use Prim.Native.Nat.{ℕ, ◌<◌}
use native.Mathlib.Omega.{arith}
use lib.IntN.{ℤ}
use lib.ListN.{length, length-append}
use mir.Syntax.{w32}
use mir.Val.{SFits}
use Rattle.std.specs.Prelude.{Result, Ok}
use Rattle.integers.proofs.Laws.{sum, within-fits}
use Rattle.words.specs.declared.Refusal.{Refusal}
use Rattle.rows.specs.declared.Row.{Row}
use Rattle.rows.specs.Rows.{row_value}
use Rattle.rows.specs.Bounds.{AllWithin, max_state}
use Rattle.rows.proofs.Laws.{dot-within}
use Rattle.grammar.specs.Reading.{Read, got, refused}
use Rattle.grammar.specs.Programs.{Program}
use Rattle.grammar.specs.WellFormed.{Each, RowOk, WellFormed}
use Rattle.grammar.proofs.ProgramLaws.{accepted}
use Rattle.programs.specs.Calls.{read}
use Rattle.runs.specs.declared.Failing.{Failing}
use Rattle.runs.specs.declared.Stepped.{Stepped}
use Rattle.runs.specs.declared.Stepped.TheVariants.{NotEnabled}
use Rattle.runs.specs.Runs.{Inside, action_of}
use Rattle.runs.specs.Guards.{Near, Guarded}
use Rattle.runs.specs.Calls.{ready}
use Rattle.runs.specs.Values.{Fits}
use Rattle.runs.proofs.Answers.{ready-known, each_at}
use Rattle.runs.proofs.Sizes.{row_read_lem, state-small}

middle : (P : Row → Type 0) (xs : List Row) (y : Row) (ys : List Row) → Each P (xs ++ (y ∷ ys)) → P y
middle P [] y ys h = h.0
middle P (x ∷ xs) y ys h = middle P xs y ys h.1

-- 1,000 times 8,192 eight times, and 1,000,000
value-fits : {vars : ℕ} (r : Row) (s : List ℤ) → RowOk vars r → AllWithin max_state s → SFits w32 (row_value r s)
value-fits r s ok h = let q = row_read_lem ok in within-fits w32 (omega arith) (sum (dot-within r.coef s 8 1000 max_state ok.eight q.coefs h) q.const)

near_fits : (p : Program) → WellFormed p → (k : ℕ) → k < length p.actions → (s : List ℤ) → Inside p s → {f : Failing} → Near (action_of p k).guards s f → Fits f
near_fits p good k known s h {f} n =
    let ok = (each_at p.actions (length p.ranges) k good.actions.each known).guards in
    let row_ok = middle (RowOk (length p.ranges)) n.before n.fails n.after (rw n.rows_are at ok.each) in
    let state = subst (AllWithin max_state) (append-nil s) (state-small p.ranges s 0 good.ranges.each h.long (omega (arith, h.none-off))) in
    let few = rw n.rows_are at ok.few in
    (omega (arith, n.number, few, length-append n.before (n.fails ∷ n.after)), rw n.value-is (value-fits n.fails s row_ok state))

pub guarded-fits : (ws : List ℕ) (k : ℕ) (s : List ℤ) {a : Result Stepped Refusal} → Guarded (ready (read ws) k s) k s a → (f : Failing) → a ≡ Ok (NotEnabled f) → Fits f
guarded-fits ws k s {a} g f e = go (ready (read ws) k s) refl (subst (Guarded (ready (read ws) k s) k s) e g)
  where
    go : (m : Read Program) → ready (read ws) k s ≡ m → Guarded m k s (Ok (NotEnabled f)) → Fits f
    go (refused r) is h = let z : ◌≡◌ {A = ℕ} 0 1 = cc h in absurd (omega arith)
    go (got p us i) is h = let at = ready-known (read ws) k s is in near_fits p (accepted ws p us i at.is_read).good k at.known s at.inside h
