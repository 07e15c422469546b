-- A lemma with all multipliers 0 has the sum 0 and is not accepted. Assumes nothing.
use mathlib.Core.Path.{◌≡◌, refl}
use mathlib.Core.List.{List, [], ◌∷◌, map}
use Prim.Native.Nat.{ℕ, ◌<◌}
use borrow.Author.Tests.{lt-leb}
use lib.IntN.{ℤ, pos, zero-*ℤ}
use lib.ListN.{length, get_or}
use Rattle.rows.specs.declared.Row.{Row}
use Rattle.rows.specs.Rows.{dot, corner}
use Rattle.grammar.specs.Reading.{got}
use Rattle.grammar.specs.Programs.{Program}
use Rattle.grammar.specs.WellFormed.{Each}
use Rattle.programs.specs.Calls.{read}
use Rattle.sums.specs.Sums.{plus_times, add_scaled, combine, const_row}
use Rattle.lemmas.specs.Lemmas.{Lemma, rows_of, total, largest_of}
use Rattle.lemmas.specs.LemmaGrammar.{read_lemmas}
use Rattle.ask.specs.Calls.{no_lemma, ask}
use Rattle.ask.specs.declared.Asked.TheVariants.{NotAccepted}
use Rattle.std.specs.Prelude.{Ok}

abbrev pub Zeros : List ℕ → Type 0
Zeros ms = Each (λ m. m ≡ 0) ms

abbrev ZeroCoefs : List ℤ → Type 0
ZeroCoefs xs = Each (λ x. x ≡ pos 0) xs

record ZeroRow (r : Row) : Type 0 where
  coefs : ZeroCoefs r.coef
  const : r.constant ≡ pos 0

plus_zero : (xs bs : List ℤ) → ZeroCoefs xs → ZeroCoefs (plus_times (pos 0) xs bs)
unfolding plus_times
plus_zero [] bs z = tt
plus_zero (x ∷ xs) [] z = tt
plus_zero (x ∷ xs) (b ∷ bs) z = (rw (z.0, zero-*ℤ b), plus_zero xs bs z.1)

dot-zero : (xs ys : List ℤ) → ZeroCoefs xs → dot xs ys ≡ pos 0
unfolding dot
dot-zero [] ys z = refl
dot-zero (x ∷ xs) [] z = refl
dot-zero (x ∷ xs) (y ∷ ys) z = rw (z.0, zero-*ℤ y, dot-zero xs ys z.1)

combine-zero : (s : Row) (ms : List ℕ) (rs : List Row) → ZeroRow s → Zeros ms → ZeroRow (combine s (map pos ms) rs)
unfolding combine
combine-zero s [] rs h z = h
combine-zero s (m ∷ ms) [] h z = h
combine-zero s (m ∷ ms) (r ∷ rs) h z =
    rw z.0
    (combine-zero (add_scaled s (pos 0) r) ms rs (record { coefs = plus_zero s.coef r.coef h.coefs; const = rw (h.const, zero-*ℤ r.constant) }) z.1)

largest-zero : (p : Program) (l : Lemma) → Zeros l.multipliers → largest_of p l ≡ pos 0
largest-zero p l z =
    let t = combine-zero (const_row (pos 0)) l.multipliers (rows_of p l) (record { coefs = (refl, (refl, (refl, (refl, (refl, (refl, (refl, (refl, tt)))))))); const = refl }) z in
    rw (dot-zero (total p l).coef (corner (total p l).coef p.ranges) t.coefs, t.const)

pub zeros-not-accepted : (ws lemmas : List ℕ) (k : ℕ) (p : Program) (ls : List Lemma) {us vs : List ℕ} {i j : ℕ}
    → read ws ≡ got p us i → read_lemmas p lemmas ≡ got ls vs j → k < length ls → Zeros (get_or ls k no_lemma).multipliers → ask ws lemmas k ≡ Ok NotAccepted
zeros-not-accepted ws lemmas k p ls e f below z = rw (e, f, lt-leb (length ls) k below, largest-zero p (get_or ls k no_lemma) z)
