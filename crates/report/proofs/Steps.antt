-- The path's actions are written one after the other: those written and those of the words ahead are all.
use mathlib.Core.Path.{◌≡◌, refl, sym, ap, ◌∙◌}
use mathlib.Core.Bool.{true, false}
use mathlib.Core.List.{List, [], ◌++◌, append_assoc, append-nil}
use Prim.Native.Nat.{ℕ, ◌+◌, ◌<◌, ◌≤◌}
use native.Mathlib.Numerals.{add-one}
use native.Mathlib.Omega.{arith}
use lib.Dec.{eqb}
use lib.ListN.{length, drop, get_or, length-append, drop_of_length-le}
use lib.Seq.{drop-cons}
use Rattle.words.specs.Words.{kind_of, payload, STEP}
use Rattle.verdict.specs.Verdicts.{steps_in}
use Rattle.lines.specs.Text.{text, field}
use Rattle.lines.specs.Puts.{Put}
use Rattle.lines.proofs.Puts.{then_put, put-nothing}
use Rattle.report.specs.Report.{step_text}

pub record Stepping (o : List ℕ) (at : ℕ) (path out : List ℕ) (place i : ℕ) : Type 0 where
  pub low : i ≤ length path
  pub same : length out ≡ length o
  pub done : List ℕ
  pub written : Put o at done out place
  pub all : done ++ step_text (steps_in (drop i path)) ≡ step_text (steps_in path)

pub none_yet : (o : List ℕ) (at : ℕ) (path : List ℕ) → Stepping o at path o at 0
none_yet o at path = record { low = omega arith; same = refl; done = []; written = put-nothing o at; all = refl }

module _ (o : List ℕ) (at : ℕ) (path out : List ℕ) (place i : ℕ) (inv : Stepping o at path out place i) (room : at + length (step_text (steps_in path)) ≤ length o) where
  module _ (h : i < length path) (e : eqb (kind_of (get_or path i 0)) STEP ≡ true) (j : ℕ) (is : j ≡ payload (get_or path i 0)) where
    ahead : step_text (steps_in (drop i path)) ≡ field (text " ") j ++ step_text (steps_in (drop (i + 1) path))
    unfolding steps_in step_text
    ahead = rw (add-one i, drop-cons path i 0 h, e, is)

    fit : at + length inv.done + length (field (text " ") j) ≤ length o
    fit =
        let rest = step_text (steps_in (drop (i + 1) path)) in
        let size : length inv.done + (length (field (text " ") j) + length rest) ≡ length (step_text (steps_in path)) =
        sym (length-append inv.done (field (text " ") j ++ rest) ∙ ap (λ (n : ℕ). length inv.done + n) (length-append (field (text " ") j) rest)) ∙ ap length (ap (λ (l : List ℕ). inv.done ++ l) (sym ahead) ∙ inv.all) in
        omega arith

    pub step_fits : place + length (field (text " ") j) ≤ length out
    step_fits = omega (arith, fit, inv.written.ends, inv.same)

    pub one_more : {out' : List ℕ} {place' : ℕ} → Put out place (field (text " ") j) out' place' → length out' ≡ length out → Stepping o at path out' place' (i + 1)
    one_more put kept =
        record {
          low = omega arith;
          same = kept ∙ inv.same;
          done = inv.done ++ field (text " ") j;
          written = then_put inv.written put (omega (arith, fit));
          all = append_assoc inv.done (field (text " ") j) (step_text (steps_in (drop (i + 1) path))) ∙ ap (λ (l : List ℕ). inv.done ++ l) (sym ahead) ∙ inv.all;
        }

  finished : step_text (steps_in (drop i path)) ≡ [] → Put o at (step_text (steps_in path)) out place
  finished e = rw (sym (append-nil inv.done) ∙ ap (λ (l : List ℕ). inv.done ++ l) (sym e) ∙ inv.all) at inv.written

  pub stops : i < length path → eqb (kind_of (get_or path i 0)) STEP ≡ false → Put o at (step_text (steps_in path)) out place
  unfolding steps_in step_text
  stops h e = finished (rw (drop-cons path i 0 h, e))

  pub passed : length path ≤ i → Put o at (step_text (steps_in path)) out place
  unfolding steps_in step_text
  passed h = finished (rw (drop_of_length-le path {i = i} h))
