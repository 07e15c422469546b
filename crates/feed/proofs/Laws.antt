-- One step, case by case.
use mathlib.Core.Path.{◌≡◌, refl, sym}
use mathlib.Core.Bool.{Bool, true, false, cond, ◌&&◌}
use mathlib.Core.List.{List}
use Prim.Native.Nat.{ℕ, suc, ◌<◌, ◌≤◌}
use native.Mathlib.Omega.{arith}
use native.Mathlib.Nat.{add-zero}
use lib.Dec.{eqb, ltb, leb}
use lib.IntN.{ℤ}
use lib.ListN.{set}
use borrow.Author.Tests.{ne_eqb, leb-true, ltb-true}
use Rattle.std.specs.Prelude.{Option, Some, None, Ok, Err}
use Rattle.integers.proofs.Tests.{and-true}
use Rattle.words.specs.Words.{bits, kind_of, ROW, TERM}
use Rattle.words.specs.declared.Refusal.TheVariants.{Word, Value}
use Rattle.grammar.specs.Reading.{Read, got, refused, one, always, due, begins}
use Rattle.grammar.specs.Grammar.{coefficient, coefficient_allowed, constant_allowed, term}
use Rattle.grammar.proofs.TermLaws.{term_allowed}
use Rattle.feed.specs.declared.Said.{Said}
use Rattle.feed.specs.declared.Said.TheVariants.{GoOn, Complete}
use Rattle.feed.specs.declared.Kept.{Kept}
use Rattle.feed.specs.Steps.{Held, place, seen, read, after_row, after_term, row_step}
use Rattle.feed.specs.Answers.{held}

-- the variable of an allowed TERM
pub allowed_between : (low vars w : ℕ) → term_allowed low vars w ≡ true → (low ≤ bits 27 24 w) × (bits 27 24 w < vars)
allowed_between low vars w a =
    let (known, good) = and-true (leb low (bits 27 24 w) && ltb (bits 27 24 w) vars) (coefficient_allowed w) a in
    let (from, below) = and-true (leb low (bits 27 24 w)) (ltb (bits 27 24 w) vars) known in
    (leb-true low (bits 27 24 w) from, ltb-true (bits 27 24 w) vars below)

module _ (k : Kept) (c : List ℤ) where
  module _ (none : k.taken ≡ 0) where
    pub end-first : row_step (held k c) None ≡ record { held = held k c; said = Err (Word k.from) }
    unfolding row_step one
    end-first = rw (none, add-zero k.from) refl

    module _ (w : ℕ) where
      pub other-first : eqb (kind_of w) ROW ≡ false → row_step (held k c) (Some w) ≡ record { held = held k c; said = Err (Word k.from) }
      unfolding row_step one due
      other-first e = rw (none, add-zero k.from, e) refl

      pub bad-row : eqb (kind_of w) ROW ≡ true → constant_allowed w ≡ false → row_step (held k c) (Some w) ≡ record { held = held k c; said = Err (Value k.from) }
      unfolding row_step one due
      bad-row e a = rw (none, add-zero k.from, e, a) refl

      pub good-row : eqb (kind_of w) ROW ≡ true → constant_allowed w ≡ true → row_step (held k c) (Some w) ≡ record { held = after_row (held k c) w; said = Ok GoOn }
      unfolding row_step one due
      good-row e a = rw (none, add-zero k.from, e, a) refl

  module _ (some : 0 < k.taken) where
    later : eqb k.taken 0 ≡ false
    later = ne_eqb k.taken 0 (λ e. omega arith)

    pub end_later : row_step (held k c) None ≡ record { held = held k c; said = Ok Complete }
    unfolding row_step
    end_later = rw later refl

    module _ (w : ℕ) where
      pub other-later : eqb (kind_of w) TERM ≡ false → row_step (held k c) (Some w) ≡ record { held = held k c; said = Ok Complete }
      unfolding row_step
      other-later e = rw (later, e) refl

      module _ (kind : eqb (kind_of w) TERM ≡ true) where
        pub unnamed-term : eqb (bits 23 16 w) 0 ≡ false → row_step (held k c) (Some w) ≡ record { held = held k c; said = Err (Word (place k)) }
        unfolding row_step one due
        unnamed-term e = rw (later, kind, e) refl

        pub bad-term : eqb (bits 23 16 w) 0 ≡ true → term_allowed k.low k.vars w ≡ false
            → row_step (held k c) (Some w) ≡ record { held = held k c; said = Err (Value (place k)) }
        unfolding row_step one due
        bad-term e a = rw (later, kind, e, a) refl

        pub good-term : eqb (bits 23 16 w) 0 ≡ true → term_allowed k.low k.vars w ≡ true
            → row_step (held k c) (Some w) ≡ record { held = after_term (held k c) w; said = Ok GoOn }
        unfolding row_step one due
        good-term e a = rw (later, kind, e, a) refl

        -- the same, with what the code writes
        pub written-term : (t l v : ℕ) (x b : ℤ) → eqb (bits 23 16 w) 0 ≡ true → term_allowed k.low k.vars w ≡ true
            → t ≡ suc k.taken → l ≡ suc (bits 27 24 w) → v ≡ bits 27 24 w → x ≡ coefficient w → b ≡ k.constant
            → record { held = held (record { vars = k.vars; from = k.from; taken = t; low = l; constant = b }) (set c v x); said = Ok GoOn } ≡ row_step (held k c) (Some w)
        written-term t l v x b e a p q r y z = rw (p, q, r, y, z) (sym (good-term e a))

-- the end decides
end_by : (h : Held) (b : Bool) → eqb h.kept.taken 0 ≡ b → (row_step h None).said ≡ cond b (Err (Word (place h.kept))) (Ok Complete)
unfolding row_step one
end_by h true p = rw p refl
end_by h false p = rw p refl

pub end_decides : (h : Held) → (row_step h None).said ≡ cond (eqb h.kept.taken 0) (Err (Word (place h.kept))) (Ok Complete)
end_decides h = end_by h (eqb h.kept.taken 0) refl

-- where it does not refuse it completes the row, and leaves the record as it is
end-complete_by : (h : Held) {x : Said} (b : Bool) → eqb h.kept.taken 0 ≡ b → (row_step h None).said ≡ Ok x → row_step h None ≡ record { held = h; said = Ok Complete }
unfolding row_step one
end-complete_by h true p g = cc (rw p at g)
end-complete_by h false p g = rw p refl

pub end-complete : (h : Held) {x : Said} → (row_step h None).said ≡ Ok x → row_step h None ≡ record { held = h; said = Ok Complete }
end-complete h g = end-complete_by h (eqb h.kept.taken 0) refl g

-- ---- what a step leaves of the record
-- at most one word more is taken
abbrev pub Near : Kept → Kept → Type 0
Near k n = (n.vars ≡ k.vars) × (n.from ≡ k.from) × (n.taken ≤ suc k.taken)

read-near : (h : Held) (f : ℕ → Held) (m : Read ℕ) (k : Kept) → ((w : ℕ) → Near k (f w).kept) → Near k h.kept → Near k (read h m f).held.kept
read-near h f (got w ws i) k p q = p w
read-near h f (refused r) k p q = q

module _ (k : Kept) (c : List ℤ) (f : Option ℕ) where
  same-near : Near k k
  same-near = (refl, refl, omega arith)

  near_by : (b t : Bool) → eqb k.taken 0 ≡ b → begins TERM (seen f) ≡ t → Near k (row_step (held k c) f).held.kept
  unfolding row_step
  near_by true t p q = rw p (read-near (held k c) (after_row (held k c)) (one ROW always always constant_allowed (seen f) (place k)) k (λ w. (refl, refl, omega arith)) same-near)
  near_by false true p q = rw (p, q) (read-near (held k c) (after_term (held k c)) (term (term_allowed k.low k.vars) (seen f) (place k)) k (λ w. (refl, refl, omega arith)) same-near)
  near_by false false p q = rw (p, q) same-near

  pub steps-near : Near k (row_step (held k c) f).held.kept
  steps-near = near_by (eqb k.taken 0) (begins TERM (seen f)) refl refl
