-- A program and its words: reading the words of a well-formed program gives the program, and an accepted list is the words of what was read.
use mathlib.Core.Path.{◌≡◌, refl, sym, ap, ◌∙◌, subst}
use mathlib.Core.Bool.{Bool, true, false}
use mathlib.Core.List.{List, [], ◌∷◌, ◌++◌, append_assoc}
use Prim.Native.Nat.{ℕ, suc, ◌^◌, ◌≤◌, ◌<◌}
use native.Mathlib.Omega.{arith}
use native.Mathlib.Nat.{not-suc-le-zero}
use lib.Dec.{eqb, leb}
use lib.ListN.{length}
use borrow.Author.Tests.{eqb-true, leb-true, le-leb}
use Rattle.words.specs.Words.{payload, word, VAR, TERM, INIT, PRED, ACTION, SETS, END}
use Rattle.words.proofs.Laws.{kind_word, payload-word, word_split}
use Rattle.rows.specs.declared.Row.{Row}
use Rattle.rows.specs.declared.Range.{Range}
use Rattle.words.specs.declared.Literals.{Literals}
use Rattle.grammar.specs.Reading.{Read, got, refused, one, always, begins, many}
use Rattle.grammar.specs.Programs.{Program}
use Rattle.grammar.specs.Grammar.{range, ranges, rows, action, combination, nothing, end, program}
use Rattle.grammar.specs.Encoding.{concat, encode_range, encode_row, encode_rows, encode_action, encode_literals, encode}
use Rattle.grammar.specs.WellFormed.{Each, Few, RangeOk, RowOk, LiteralsOk, WellFormed}
use Rattle.grammar.proofs.ReadingLaws.{Codec, Taken, retaken, bound, joined, one_out, one_in, not-got, times-codec, many-out, many-into, concat-head}
use Rattle.grammar.proofs.WordLaws.{range_codec, range-full, range_starts, literals-codec, literals-full, literals-starts}
use Rattle.grammar.proofs.RowLaws.{row-codec}
use Rattle.grammar.proofs.ActionLaws.{action-codec, action-full, action-starts}

-- ---- INIT or PRED and its rows
abbrev pub at_most : ℕ → ℕ → Bool
at_most most w = leb (payload w) most

module _ (kind most vars : ℕ) (few : vars ≤ 8) (small : most < 2 ^ 28) (other : eqb kind TERM ≡ false) where
  rows_out : (ws : List ℕ) (i : ℕ) (rs : List Row) (vs : List ℕ) (j : ℕ) → rows kind most vars ws i ≡ got rs vs j → Taken (encode_rows kind) (Few most (RowOk vars)) ws i rs vs j
  unfolding rows
  rows_out ws i rs vs j h = bound (one kind always (at_most most) always ws i) _ h (λ w us k e₁ h₁.
      let o = one_out kind always (at_most most) always ws i w us k e₁ in
      let t = (times-codec (row-codec vars few) (payload w)).out us k rs vs j h₁ in
      let l = t.good.0 in
      let first : w ≡ word kind (length rs) = rw l (word_split w o.kind_is) in
      record {
        words = o.words ∙ rw (← first) (ap (λ (l : List ℕ). w ∷ l) t.words);
        place = omega (arith, o.place, t.place);
        good = record { few = rw l (leb-true (payload w) most o.within-is); each = t.good.1 };
      })

  rows-into : (rs : List Row) (vs : List ℕ) (i : ℕ) → Few most (RowOk vars) rs → begins TERM vs ≡ false → (j : ℕ) × (rows kind most vars (encode_rows kind rs ++ vs) i ≡ got rs vs j)
  unfolding rows
  rows-into rs vs i p h =
      let n = length rs in
      let l = p.few in
      let fits : n < 2 ^ 28 = omega arith in
      let same : payload (word kind n) ≡ n = payload-word kind n fits in
      let (j, e) = (times-codec (row-codec vars few) n).into rs vs (suc i) (refl, p.each) h in
      (j, rw (one_in kind always (at_most most) always (word kind n) (concat encode_row rs ++ vs) i (kind_word kind n fits) refl (rw same (le-leb n most l)) refl, same, e) refl)

  pub rows-codec : Codec (rows kind most vars) (encode_rows kind) (Few most (RowOk vars))
  rows-codec = record { out = rows_out; into = rows-into; head = λ rs vs p h. rw (kind_word kind (length rs) (omega (arith, p.few))) other }

-- ---- 1 to 8 VAR
abbrev pub Some8 : List Range → Type 0
Some8 gs = (1 ≤ length gs) × Few 8 RangeOk gs

pub ranges_out : (ws : List ℕ) (i : ℕ) (gs : List Range) (vs : List ℕ) (j : ℕ) → ranges ws i ≡ got gs vs j → Taken (concat encode_range) Some8 ws i gs vs j
unfolding ranges concat
ranges_out ws i gs vs j h = bound (range true ws i) _ h (λ r us k e₁ h₁. bound (many VAR range 7 us k) _ h₁ (λ rs us₁ k₁ e₂ h₂.
    let t = range_codec.out ws i r us k e₁ in
    let s = many-out VAR range range_codec range-full 7 us k rs us₁ k₁ e₂ in
    let m = joined t s in
    retaken {a = r ∷ rs} (record {
      words = m.0;
      place = m.1;
      good = (omega arith, record { few = omega (arith, s.good.few); each = (t.good, s.good.each) });
    }) h₂))

ranges_into : (gs : List Range) (vs : List ℕ) (i : ℕ) → Some8 gs → begins TERM vs ≡ false → begins VAR vs ≡ false → (j : ℕ) × (ranges (concat encode_range gs ++ vs) i ≡ got gs vs j)
unfolding ranges concat
ranges_into [] vs i ok h v = absurd (not-suc-le-zero ok.0)
ranges_into (r ∷ rs) vs i ok h v =
    let each = ok.1.each in
    let few : length rs ≤ 7 = omega (arith, ok.1.few) in
    let (k, e₁) = range_codec.into r (concat encode_range rs ++ vs) i each.0 (concat-head range_codec rs vs each.1 h) in
    let (j, e₂) = many-into VAR range range_codec range-full range_starts 7 rs vs k few each.1 h v in
    (j, rw (append_assoc (encode_range r) (concat encode_range rs) vs, e₁, e₂) refl)

-- ---- END, and nothing after it
abbrev pub end_words : List ℕ
end_words = word END 0 ∷ []

abbrev pub end_named : ℕ → Bool
end_named w = eqb (payload w) 0

nothing_got : (ws : List ℕ) (i e : ℕ) (vs : List ℕ) (j : ℕ) → nothing ws i ≡ got e vs j → ws ≡ []
nothing_got [] i e vs j h = refl
nothing_got (w ∷ ws) i e vs j h = absurd (not-got h)

end_out : (ws : List ℕ) (i e : ℕ) (vs : List ℕ) (j : ℕ) → end ws i ≡ got e vs j → ws ≡ end_words
unfolding end
end_out ws i e vs j h = bound (one END end_named always always ws i) _ h (λ w us k e₁ h₁.
    let o = one_out END end_named always always ws i w us k e₁ in
    let n : payload w ≡ 0 = eqb-true (payload w) 0 o.named-is in
    let same : w ≡ word END 0 = rw n at (word_split w o.kind_is) in
    o.words ∙ rw (same, nothing_got us k e vs j h₁) refl)

-- ---- a program
pub record Accepted (ws : List ℕ) (p : Program) : Type 0 where
  pub words : ws ≡ encode p
  pub good : WellFormed p

abbrev AcceptedOf : List ℕ → Read Program → Type 0
AcceptedOf ws (got p vs j) = Accepted ws p
AcceptedOf ws (refused r) = Unit {0}

nested : (a b c d e f : List ℕ) → a ++ b ++ c ++ d ++ e ++ f ≡ a ++ (b ++ (c ++ (d ++ (e ++ f))))
nested a b c d e f = simp append_assoc

pub encode-nested : (p : Program)
    → encode p ≡ concat encode_range p.ranges ++ (encode_rows INIT p.start ++ (encode_rows PRED p.predicates ++ (concat encode_action p.actions ++ (concat encode_literals p.forbidden ++ end_words))))
unfolding encode
encode-nested p = nested (concat encode_range p.ranges) (encode_rows INIT p.start) (encode_rows PRED p.predicates) (concat encode_action p.actions) (concat encode_literals p.forbidden) end_words

-- the parts' words, one after the other
assembled : (p : Program) (ws u₁ u₂ u₃ u₄ u₅ : List ℕ) → ws ≡ concat encode_range p.ranges ++ u₁ → u₁ ≡ encode_rows INIT p.start ++ u₂
    → u₂ ≡ encode_rows PRED p.predicates ++ u₃ → u₃ ≡ concat encode_action p.actions ++ u₄ → u₄ ≡ concat encode_literals p.forbidden ++ u₅ → u₅ ≡ end_words
    → ws ≡ encode p
assembled p ws u₁ u₂ u₃ u₄ u₅ a b c d e f = a ∙ rw (b, c, d, e, f) (sym (encode-nested p))

pub accepted : (ws : List ℕ) (p : Program) (vs : List ℕ) (j : ℕ) → program ws 0 ≡ got p vs j → Accepted ws p
unfolding program
accepted ws p vs j h =
    bound (ranges ws 0) _ h (λ gs u₁ k₁ e₁ h₁. let n = length gs in
    bound (rows INIT 8 n u₁ k₁) _ h₁ (λ start u₂ k₂ e₂ h₂. bound (rows PRED 14 n u₂ k₂) _ h₂ (λ preds u₃ k₃ e₃ h₃.
    bound (many ACTION (action n) 16 u₃ k₃) _ h₃ (λ actions u₄ k₄ e₄ h₄. bound (many SETS (combination (length preds)) 8 u₄ k₄) _ h₄ (λ forbidden u₅ k₅ e₅ h₅.
    bound (end u₅ k₅) _ h₅ (λ z u₆ k₆ e₆ h₆.
    let t₁ = ranges_out ws 0 gs u₁ k₁ e₁ in
    let few = t₁.good.1.few in
    let t₂ = (rows-codec INIT 8 n few (omega arith) refl).out u₁ k₁ start u₂ k₂ e₂ in
    let t₃ = (rows-codec PRED 14 n few (omega arith) refl).out u₂ k₂ preds u₃ k₃ e₃ in
    let t₄ = many-out ACTION (action n) (action-codec n few) (action-full n few) 16 u₃ k₃ actions u₄ k₄ e₄ in
    let t₅ = many-out SETS (combination (length preds)) (literals-codec (length preds)) (literals-full (length preds)) 8 u₄ k₄ forbidden u₅ k₅ e₅ in
    let last = end_out u₅ k₅ z u₆ k₆ e₆ in
    let q : Program = record { ranges = gs; start = start; predicates = preds; actions = actions; forbidden = forbidden } in
    let good : WellFormed q = record { some = t₁.good.0; ranges = t₁.good.1; start = t₂.good; predicates = t₃.good; actions = t₄.good; forbidden = t₅.good } in
    subst (AcceptedOf ws) h₆ (record { words = assembled q ws u₁ u₂ u₃ u₄ u₅ t₁.words t₂.words t₃.words t₄.words t₅.words last; good = good })))))))

-- ---- the words of a well-formed program are read
end_read : (k : ℕ) → end end_words k ≡ got 0 [] (suc k)
unfolding end
end_read k = rw (one_in END end_named always always (word END 0) [] k refl refl refl refl) refl

no_action_lem : (preds : ℕ) (ls : List Literals) → Each (LiteralsOk preds) ls → begins ACTION (concat encode_literals ls ++ end_words) ≡ false
unfolding concat
no_action_lem preds [] p = refl
no_action_lem preds (l ∷ ls) p = rw (kind_word SETS l.0 p.0.payload) refl

pub encoded : (p : Program) → WellFormed p → (j : ℕ) × (program (encode p) 0 ≡ got p [] j)
unfolding program
encoded p ok =
    let n = length p.ranges in
    let few = ok.ranges.few in
    let lits = length p.predicates in
    let w₅ = concat encode_literals p.forbidden ++ end_words in
    let w₄ = concat encode_action p.actions ++ w₅ in
    let w₃ = encode_rows PRED p.predicates ++ w₄ in
    let w₂ = encode_rows INIT p.start ++ w₃ in
    let starts = rows-codec INIT 8 n few (omega arith) refl in
    let predicates = rows-codec PRED 14 n few (omega arith) refl in
    let acts = action-codec n few in
    let f₅ = concat-head (literals-codec lits) p.forbidden end_words ok.forbidden.each refl in
    let f₄ = concat-head acts p.actions w₅ ok.actions.each f₅ in
    let f₃ = predicates.head p.predicates w₄ ok.predicates f₄ in
    let f₂ = starts.head p.start w₃ ok.start f₃ in
    let var : begins VAR w₂ ≡ false = rw (kind_word INIT (length p.start) (omega (arith, ok.start.few))) refl in
    let (k₁, e₁) = ranges_into p.ranges w₂ 0 (ok.some, ok.ranges) f₂ var in
    let (k₂, e₂) = starts.into p.start w₃ k₁ ok.start f₃ in
    let (k₃, e₃) = predicates.into p.predicates w₄ k₂ ok.predicates f₄ in
    let (k₄, e₄) = many-into ACTION (action n) acts (action-full n few) (action-starts n few) 16 p.actions w₅ k₃ ok.actions.few ok.actions.each f₅
    (no_action_lem lits p.forbidden ok.forbidden.each) in
    let (k₅, e₅) = many-into SETS (combination lits) (literals-codec lits) (literals-full lits) (literals-starts lits) 8 p.forbidden end_words k₄ ok.forbidden.few
    ok.forbidden.each refl refl in
    (suc k₅, rw (encode-nested p, e₁, e₂, e₃, e₄, e₅, end_read k₅) refl)
