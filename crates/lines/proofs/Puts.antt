-- One text behind another is both texts at the place of the first.
use mathlib.Core.Path.{◌≡◌, sym, ap, ◌∙◌}
use mathlib.Core.List.{List, [], ◌++◌, append_assoc, append-nil}
use Prim.Native.Nat.{ℕ, ◌+◌, ◌≤◌}
use native.Mathlib.Omega.{arith}
use lib.ListN.{length, take, drop, length-append, take-append-drop}
use lib.Seq.{paste, take_at, drop_at, drop-drop, take-length, length-take-le}
use Rattle.lines.specs.Text.{text, decimal, field, line}
use Rattle.lines.specs.Puts.{put, Put}

pub copied : (out : List ℕ) (at : ℕ) (text : List ℕ) → paste out at text (length text) ≡ put out at text
unfolding put
copied out at text = rw (take-length text)

module _ (out : List ℕ) (at : ℕ) (text : List ℕ) (room : at + length text ≤ length out) where
  front : length (take at out ++ text) ≡ at + length text
  front = length-append (take at out) text ∙ rw (length-take-le at out (omega arith))

  pub put-behind : (more : List ℕ) → put (put out at text) (at + length text) more ≡ put out at (text ++ more)
  unfolding put
  put-behind more =
      let p = take at out ++ text in
      let n = at + length text in
      let rest : drop (n + length more) (p ++ drop n out) ≡ drop (n + length more) out =
      sym (drop-drop (length more) n (p ++ drop n out)) ∙ ap (drop (length more)) (drop_at p (drop n out) n front) ∙ drop-drop (length more) n out in
      let far : n + length more ≡ at + length (text ++ more) = omega (arith, length-append text more) in
      rw (rest, take_at p (drop n out) n front, far, append_assoc (take at out) text more)

pub then_put : {o p q : List ℕ} {at m n : ℕ} {a b : List ℕ} → Put o at a p m → Put p m b q n → at + length a ≤ length o → Put o at (a ++ b) q n
then_put {o} {p} {q} {at} {m} {n} {a} {b} x y room =
    record {
      there = y.there ∙ rw (x.there, x.ends) (put-behind o at a room b);
      ends = omega (arith, x.ends, y.ends, length-append a b);
    }

pub length-line : (first : List ℕ) (n : ℕ) (second : List ℕ) (m : ℕ) → length (line first n second m) ≡ length (field first n) + length (field second m) + 1
unfolding line
length-line first n second m = length-append (field first n ++ field second m) (text "\n") ∙ rw (length-append (field first n) (field second m))

-- another first text of the same length has the same room
pub line-fits : (a b : List ℕ) (n : ℕ) (second : List ℕ) (m : ℕ) {room : ℕ} → length a ≡ length b → length (line a n second m) ≤ room → length (line b n second m) ≤ room
line-fits a b n second m same h =
    omega (arith, h, same, length-line a n second m, length-line b n second m, length-append a (decimal n), length-append b (decimal n))

pub put-nothing : (o : List ℕ) (at : ℕ) → Put o at [] o at
unfolding put
put-nothing o at =
    let none : at + 0 ≡ at = omega arith in
    record { there = sym (rw (append-nil (take at o), none) (take-append-drop at o)); ends = sym none }

pub at_front : {o t q : List ℕ} {n : ℕ} → Put o 0 t q n → (q ≡ t ++ drop (length t) o) × (n ≡ length t)
unfolding put
at_front {o} {t} {q} {n} p = let none : 0 + length t ≡ length t = omega arith in (p.there ∙ rw none, p.ends ∙ none)
