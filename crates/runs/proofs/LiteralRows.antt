-- The rows of a set's literals are those that the code adds, predicate by predicate.
use mathlib.Core.Path.{◌≡◌, refl, sym, ap, ◌∙◌}
use mathlib.Core.Bool.{Bool, true, false}
use mathlib.Core.List.{List, [], ◌∷◌, ◌++◌, map, append-nil, append_assoc}
use Prim.Native.Nat.{ℕ, zero, suc, ◌+◌, ◌≤◌}
use native.Mathlib.Omega.{arith}
use lib.ListN.{length, drop}
use lib.Seq.{drop-cons, drop-length}
use Rattle.words.specs.declared.Literals.{Literals}
use Rattle.words.specs.LiteralSets.{Literal, B, NotB, has, literal_if, literals_in}
use Rattle.rows.specs.declared.Row.{Row}
use Rattle.rows.specs.Rows.{negated}
use Rattle.grammar.specs.Programs.{Program}
use Rattle.reader.specs.Results.{zero_row}
use Rattle.runs.specs.Runs.{predicate, literal_row, literal_rows}
use Rattle.runs.specs.Values.{row_if, premise_rows}

map-append : {A B : Type 0} (f : A → B) (xs ys : List A) → map f (xs ++ ys) ≡ map f xs ++ map f ys
map-append f [] ys = refl
map-append f (x ∷ xs) ys = rw (map-append f xs ys) refl

map_if : (f : Literal → Row) (b : Bool) (l : Literal) → map f (literal_if b l) ≡ row_if b (f l)
map_if f true l = refl
map_if f false l = refl

module _ (p : Program) (set : ℕ) where
  -- the literals of the predicates below n, and then the others' rows
  rows_split : (n : ℕ) → n ≤ length p.predicates → map (literal_row p) (literals_in n set) ++ premise_rows n (drop n p.predicates) set ≡ premise_rows 0 p.predicates set
  unfolding literals_in premise_rows
  rows_split zero h = refl
  rows_split (suc n) h =
      let xs = map (literal_row p) (literals_in n set) in
      let bs = literal_if (has n set) (B n) in
      let ns = literal_if (has (14 + n) set) (NotB n) in
      let rest = premise_rows (suc n) (drop (suc n) p.predicates) set in
      rw (map-append (literal_row p) (literals_in n set) (bs ++ ns), map-append (literal_row p) bs ns, map_if (literal_row p) (has n set) (B n), map_if (literal_row p) (has (14 + n) set) (NotB n))
      (append_assoc xs (row_if (has n set) (predicate p n) ++ row_if (has (14 + n) set) (negated (predicate p n))) rest
      ∙ ap (λ (rs : List Row). xs ++ rs) (append_assoc (row_if (has n set) (predicate p n)) (row_if (has (14 + n) set) (negated (predicate p n))) rest)
      ∙ rw (drop-cons p.predicates n zero_row h) at (rows_split n (omega arith)))

pub premises-same : (p : Program) (l : Literals) → literal_rows p l ≡ premise_rows 0 p.predicates l.0
unfolding premise_rows
premises-same p l =
    let xs = literal_rows p l in
    sym (append-nil xs) ∙ rw (drop-length p.predicates) at (rows_split p l.0 (length p.predicates) (omega arith))
