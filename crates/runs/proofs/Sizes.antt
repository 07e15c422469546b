-- The numbers of an accepted program are small enough to compute with, and its parts stand in the arrays of its image.
use mathlib.Core.Path.{◌≡◌, refl, ap, ◌∙◌}
use mathlib.Core.Bool.{true}
use mathlib.Core.List.{List, [], ◌∷◌, ◌++◌}
use Prim.Native.Nat.{ℕ, zero, suc, ◌+◌, ◌≤◌, ◌<◌}
use native.Mathlib.Omega.{arith}
use native.Mathlib.Nat.{not-suc-le-zero, le_of_suc-le-suc}
use native.Mathlib.Decide.{ℕ_discrete, dec_lt}
use lib.IntN.{ℤ, pos, negsuc, ◌*ℤ◌}
use lib.ListN.{length, get_or, set, take, drop, replicate, length-replicate}
use lib.Seq.{sets, sets-eq, take-append_seam, get_or-set_same, get_or-set_other, set_out}
use Rattle.integers.proofs.Int.{var, num, ◌⊕◌, ◌⊗◌, equal}
use Rattle.integers.proofs.Laws.{Within, literal, zero-within, le_trans}
use Rattle.rows.specs.declared.Row.{Row}
use Rattle.rows.specs.declared.Range.{Range}
use Rattle.rows.specs.Rows.{between, dot, zero_range}
use Rattle.rows.specs.Bounds.{AllWithin, max_state, Small, SmallRange, SmallRanges, Read, no_row}
use Rattle.rows.proofs.Laws.{between_out, room_weaken}
use Rattle.grammar.specs.Programs.{Assignment}
use Rattle.grammar.specs.WellFormed.{Each, RangeOk, RowOk, Rising}
use Rattle.reader.specs.Results.{zero_row}
use Rattle.actions.specs.NewRows.{keep_row, keep_rows, assigned}
use Rattle.programs.specs.Images.{zero_ranges}
use Rattle.runs.specs.Runs.{on_range, lowest_off}
use Rattle.runs.proofs.Trying.{first_on, within-small}

-- ---- something holds at every place of a list, past its end too
module _ {A : Type 0} (P : A → Type 0) (d : A) where
  abbrev Everywhere : List A → Type 0
  Everywhere xs = (k : ℕ) → P (get_or xs k d)

  pub every_set : (xs : List A) (i : ℕ) (a : A) → Everywhere xs → P a → Everywhere (set xs i a)
  every_set xs i a h p k = elim (ℕ_discrete k i) [
    | yes e ↦ elim (dec_lt i (length xs)) [
      | yes l ↦ rw (e, get_or-set_same xs i a d l) p
      | no n ↦ rw (set_out xs i a (omega arith)) (h k)
    ]
    | no n ↦ rw (get_or-set_other xs i k a d n) (h k)
  ]

  pub every-sets : (xs : List A) (i : ℕ) (ys : List A) → Everywhere xs → Each P ys → Everywhere (sets xs i ys)
  every-sets xs i [] h p = h
  every-sets xs i (y ∷ ys) h p = every-sets (set xs i y) (suc i) ys (every_set xs i y h p.0) p.1

  pub every-copy : (n : ℕ) (a : A) → P a → P d → Everywhere (replicate n a)
  every-copy zero a p q k = q
  every-copy (suc n) a p q zero = p
  every-copy (suc n) a p q (suc k) = every-copy n a p q k

  pub every-each : (xs : List A) → P d → Each P xs → Everywhere xs
  every-each [] q p k = q
  every-each (x ∷ xs) q p zero = p.0
  every-each (x ∷ xs) q p (suc k) = every-each xs q p.1 k

-- the front of an array that a list was stored in
pub front_stored : {A : Type 0} (n : ℕ) (d : A) (xs : List A) → length xs ≤ n → take (length xs) (sets (replicate n d) 0 xs) ≡ xs
front_stored n d xs h =
    let room : 0 + length xs ≤ length (replicate n d) = simp length-replicate (omega arith) in
    ap (take (length xs)) (sets-eq xs (replicate n d) 0 room) ∙ take-append_seam xs (drop (0 + length xs) (replicate n d))

-- ---- small numbers
between-within : {B : ℕ} (lo hi z : ℤ) → Within B lo → Within B hi → between lo hi z ≡ true → Within B z
between-within lo hi z l h e = let p = between_out lo hi z e in record { low = le_trans l.low p.0; high = le_trans p.1 h.high }

each_within : (cs : List ℤ) → Each (λ c. between (negsuc 999) (pos 1000) c ≡ true) cs → AllWithin 1000 cs
each_within [] p k = zero-within 1000
each_within (c ∷ cs) p zero = between-within (negsuc 999) (pos 1000) c (literal tt tt) (literal tt tt) p.0
each_within (c ∷ cs) p (suc k) = each_within cs p.1 k

pub row_read_lem : {vars : ℕ} {r : Row} → RowOk vars r → Read r
row_read_lem {r = r} p = record { coefs = each_within r.coef p.small; const = between-within (negsuc 999999) (pos 1000000) r.constant (literal tt tt) (literal tt tt) p.constant }

pub read_small : {r : Row} → Read r → Small r
read_small h = room_weaken (omega arith) (omega arith) h

abbrev pub ReadRows : List Row → Type 0
ReadRows rs = (k : ℕ) → Read (get_or rs k no_row)

no_row_read : Read no_row
no_row_read = record { coefs = λ k. zero-within 1000; const = zero-within 1000000 }

pub zeros-small : AllWithin 1000 (replicate 8 (pos 0))
zeros-small = every-copy (Within 1000) (pos 0) 8 (pos 0) (zero-within 1000) (zero-within 1000)

each_read : (vars : ℕ) (rs : List Row) → Each (RowOk vars) rs → Each Read rs
each_read vars [] p = tt
each_read vars (r ∷ rs) p = (row_read_lem p.0, each_read vars rs p.1)

pub guards-read : (n vars : ℕ) (rs : List Row) → Each (RowOk vars) rs → ReadRows (sets (replicate n zero_row) 0 rs)
guards-read n vars rs p = every-sets Read no_row (replicate n zero_row) 0 rs (every-copy Read no_row n zero_row (record { coefs = zeros-small; const = zero-within 1000000 }) no_row_read) (each_read vars rs p)

keep-read : (v : ℕ) → Read (keep_row v)
keep-read v = record { coefs = every_set (Within 1000) (pos 0) (replicate 8 (pos 0)) v (pos 1) zeros-small (literal tt tt); const = zero-within 1000000 }

rows-read : (vars : ℕ) (rs : List Row) (v : ℕ) (ss : List Assignment) → ReadRows rs → Rising vars v ss → ReadRows (assigned rs ss)
unfolding assigned
rows-read vars rs v [] h p = h
rows-read vars rs v (x ∷ ss) h p = rows-read vars (set rs x.variable x.row) (suc x.variable) ss (every_set Read no_row rs x.variable x.row h (row_read_lem p.0.row)) p.1

keeps-read : ReadRows keep_rows
keeps-read = every-each Read no_row keep_rows no_row_read
    (keep-read 0, (keep-read 1, (keep-read 2, (keep-read 3, (keep-read 4, (keep-read 5, (keep-read 6, (keep-read 7, tt))))))))

pub new-rows-read : (vars : ℕ) (ss : List Assignment) → Rising vars 0 ss → ReadRows (assigned keep_rows ss)
new-rows-read vars ss p = rows-read vars keep_rows 0 ss keeps-read p

range_small : {g : Range} → RangeOk g → SmallRange g
range_small {g} p =
    record { low = between-within (negsuc 8191) (pos 8191) g.low (literal tt tt) (literal tt tt) p.low; high = between-within (negsuc 8191) (pos 8191) g.high (literal tt tt) (literal tt tt) p.high }

zero-small : SmallRange zero_range
zero-small = record { low = zero-within max_state; high = zero-within max_state }

each-range : (gs : List Range) → Each RangeOk gs → Each SmallRange gs
each-range [] p = tt
each-range (g ∷ gs) p = (range_small p.0, each-range gs p.1)

pub ranges-small : (gs : List Range) → Each RangeOk gs → SmallRanges (sets zero_ranges 0 gs)
ranges-small gs p = every-sets SmallRange zero_range zero_ranges 0 gs (every-copy SmallRange zero_range 8 zero_range zero-small zero-small) (each-range gs p)

-- a state in the ranges, with zeros behind it
pub state-small : (gs : List Range) (s : List ℤ) (n : ℕ) → Each RangeOk gs → length s ≡ length gs → length gs ≤ lowest_off gs s → AllWithin max_state (s ++ replicate n (pos 0))
unfolding lowest_off
state-small [] [] n p l h k = every-copy (Within max_state) (pos 0) n (pos 0) (zero-within max_state) (zero-within max_state) k
state-small [] (x ∷ s) n p l h k = absurd (omega arith)
state-small (g ∷ gs) [] n p l h k = absurd (omega arith)
state-small (g ∷ gs) (x ∷ s) n p l h zero = within-small (range_small p.0) (first_on (on_range g x) h).0
state-small (g ∷ gs) (x ∷ s) n p l h (suc k) = state-small gs s n p.1 (omega arith) (first_on (on_range g x) h).1 k

-- ---- a row of one coefficient
unit_zeros : (n : ℕ) (x : List ℤ) → dot (replicate n (pos 0)) x ≡ pos 0
unfolding dot
unit_zeros zero x = refl
unit_zeros (suc n) [] = refl
unit_zeros (suc n) (y ∷ x) = rw (unit_zeros n x) (equal (num 0 ⊗ var y ⊕ num 0) (num 0) (omega arith))

pub unit_value : (n v : ℕ) (k : ℤ) (x : List ℤ) → v < n → dot (set (replicate n (pos 0)) v k) x ≡ k *ℤ get_or x v (pos 0)
unfolding dot
unit_value zero v k x h = absurd (not-suc-le-zero h)
unit_value (suc n) zero k [] h = equal (num 0) (var k ⊗ num 0) (omega arith)
unit_value (suc n) zero k (y ∷ x) h = rw (unit_zeros n x) (equal (var k ⊗ var y ⊕ num 0) (var k ⊗ var y) (omega arith))
unit_value (suc n) (suc v) k [] h = equal (num 0) (var k ⊗ num 0) (omega arith)
unit_value (suc n) (suc v) k (y ∷ x) h =
    let d = get_or x v (pos 0) in
    rw (unit_value n v k x (le_of_suc-le-suc h)) (equal (num 0 ⊗ var y ⊕ var k ⊗ var d) (var k ⊗ var d) (omega arith))
