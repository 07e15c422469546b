-- A table with a number for each action of a program: the loop that makes it, and what it has for an action.
use mathlib.Core.Path.{◌≡◌, sym, ◌∙◌}
use mathlib.Core.List.{List, map}
use Prim.Native.Nat.{ℕ, ◌+◌, ◌≤◌, ◌<◌}
use native.Mathlib.Decide.{dec_lt}
use native.Mathlib.Numerals.{add-one}
use native.Mathlib.Omega.{arith}
use lib.ListN.{length, get_or, set, drop, replicate, length-map, length-set, get_or-eq_default}
use lib.Seq.{sets, drop-cons, length-sets}
use Rattle.integers.proofs.Fill.{get_d_mapped}
use Rattle.grammar.specs.Programs.{Action, Program}
use Rattle.programs.specs.Images.{table_of}
use Rattle.programs.proofs.Places.{none_action, stored_at, blank-at}

module _ (f : Action → ℕ) (p : Program) where
  abbrev numbers : List ℕ
  numbers = map f p.actions

  count : length numbers ≡ length p.actions
  count = length-map p.actions f

  -- what is in the table, with what is still to come, is the whole
  pub record Tabling (t : List ℕ) (k : ℕ) : Type 0 where
    pub few : k ≤ length p.actions
    pub long : length t ≡ 16
    pub rest : sets t k (drop k numbers) ≡ table_of f p

  module _ (t : List ℕ) (k : ℕ) (h : Tabling t k) where
    pub tabling-next : k < length p.actions → (y : ℕ) → y ≡ f (get_or p.actions k none_action) → Tabling (set t k y) (k + 1)
    tabling-next l y e =
        let n : k < length numbers = rw count l in
        let here : get_or numbers k 0 ≡ y = get_d_mapped f p.actions k none_action 0 l ∙ sym e in
        record {
          few = omega arith;
          long = length-set t k y ∙ h.long;
          rest = rw add-one (rw (drop-cons numbers k 0 n, here) at h.rest);
        }

  module _ (few : length p.actions ≤ 16) (k : ℕ) where
    pub table_at : k < length p.actions → get_or (table_of f p) k 0 ≡ f (get_or p.actions k none_action)
    table_at l = let n = count in stored_at 16 0 numbers k 0 (omega arith) (omega arith) ∙ get_d_mapped f p.actions k none_action 0 l

    pub table-past : length p.actions ≤ k → get_or (table_of f p) k 0 ≡ 0
    table-past h = let n = count in
        elim (dec_lt k 16) [
          | yes l ↦ blank-at 16 0 numbers k 0 (omega arith) l
          | no l ↦ get_or-eq_default (table_of f p) 0 {n = k} (rw (length-sets (replicate 16 0) 0 numbers) (omega arith))
        ]
