-- The words of the findings of a graph are its sheet, and a graph has one sheet only.
use mathlib.Core.Path.{◌≡◌, refl, sym, ap₂, ◌∙◌}
use mathlib.Core.Logic.{⊎_elim, ◌↔◌}
use mathlib.Core.List.Memᴰ
use mathlib.Core.List.{List, [], ◌∷◌, map, Memᴰ}
use Prim.Native.Nat.{ℕ, ◌≤◌, ◌<◌}
use native.Mathlib.Omega.{arith}
use Rattle.records.specs.Records.{most_nodes}
use Rattle.grammar.specs.Programs.{Program}
use Rattle.grammar.specs.WellFormed.{Each, WellFormed}
use Rattle.lemmas.specs.Lemmas.{Lemma}
use Rattle.search.specs.Search.{Graph, count}
use Rattle.verdict.specs.Verdicts.{findings}
use Rattle.sheet.specs.Sheets.{finding_word, Rises, Sheet}
use Rattle.sheet.proofs.Fields.{word_tells}
use Rattle.sheet.proofs.Dues.{findings-are, due-fits}
use Rattle.sheet.proofs.Order.{words-rise}

pub sheet : (p : Program) → WellFormed p → (ls : List Lemma) (g : Graph) → count g ≤ most_nodes → Sheet p ls g (map finding_word (findings p ls g))
sheet p good ls g few = record {
  all = λ f due. Memᴰ.map finding_word ((findings-are p ls g f).1 due);
  only = λ w d.
      let (f, found, is) = Memᴰ.of_map finding_word (findings p ls g) d in
      let due = (findings-are p ls g f).0 found in
      (f, due, sym is, λ f' due' is'. word_tells f' f (due-fits p ls g good few f' due') (due-fits p ls g good few f due) (sym is' ∙ sym is));
  order = words-rise p good ls g;
}

-- ---- a list that rises is known by its members
above : (w : ℕ) (xs : List ℕ) (u : ℕ) → Each (λ v. w < v) xs → Memᴰ u xs → w < u
above w [] u h d = absurd (Memᴰ.not-nil d)
above w (x ∷ xs) u h d = ⊎_elim (λ e. omega (arith, e)) (above w xs u h.1) (Memᴰ.cases_cons d)

module _ (x : ℕ) (xs : List ℕ) (r : Rises (x ∷ xs)) where
  first-least : (w : ℕ) → Memᴰ w (x ∷ xs) → x ≤ w
  unfolding Rises
  first-least w d = ⊎_elim (λ e. omega (arith, e)) (λ q. omega (arith, above x xs w r.0 q)) (Memᴰ.cases_cons d)

  rest_in : (y : ℕ) (ys : List ℕ) → x ≡ y → ((w : ℕ) → Memᴰ w (x ∷ xs) → Memᴰ w (y ∷ ys)) → (w : ℕ) → Memᴰ w xs → Memᴰ w ys
  unfolding Rises
  rest_in y ys e to w d = ⊎_elim (λ q. absurd (omega (arith, q, above x xs w r.0 d))) (λ q. q) (Memᴰ.cases_cons (to w (Memᴰ.tail d)))

pub rises_unique : (xs ys : List ℕ) → Rises xs → Rises ys → ((w : ℕ) → Memᴰ w xs ↔ Memᴰ w ys) → xs ≡ ys
unfolding Rises
rises_unique [] [] r s same = refl
rises_unique [] (y ∷ ys) r s same = absurd (Memᴰ.not-nil ((same y).1 (Memᴰ.head refl)))
rises_unique (x ∷ xs) [] r s same = absurd (Memᴰ.not-nil ((same x).0 (Memᴰ.head refl)))
rises_unique (x ∷ xs) (y ∷ ys) r s same =
    let e : x ≡ y = omega (arith, first-least x xs r y ((same y).1 (Memᴰ.head refl)), first-least y ys s x ((same x).0 (Memᴰ.head refl))) in
    ap₂ ◌∷◌ e (rises_unique xs ys r.1 s.1 (λ w. (rest_in x xs r y ys e (λ u. (same u).0) w, rest_in y ys s x xs (sym e) (λ u. (same u).1) w)))

module _ {p : Program} {ls : List Lemma} {g : Graph} where
  members : {xs ys : List ℕ} → Sheet p ls g xs → Sheet p ls g ys → (w : ℕ) → Memᴰ w xs → Memᴰ w ys
  members a b w d = let (f, due, is, one) = a.only w d in Memᴰ.cast is (b.all f due)

  pub sheet-unique : (xs ys : List ℕ) → Sheet p ls g xs → Sheet p ls g ys → xs ≡ ys
  sheet-unique xs ys a b = rises_unique xs ys a.order b.order (λ w. (members a b w, members b a w))
