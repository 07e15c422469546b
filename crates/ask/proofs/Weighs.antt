-- The lemma that begins at an index: what the code reads of it, and its largest value.
use mathlib.Core.Path.{◌≡◌, sym, ap, ◌∙◌, subst}
use Rattle.std.specs.Prelude.{Option}
use mathlib.Core.List.{List, ◌++◌, map}
use Prim.Native.Nat.{ℕ, ◌+◌, ◌≤◌, ◌<◌}
use native.Mathlib.Omega.{arith}
use native.Mathlib.Nat.{add-zero}
use lib.IntN.{pos}
use lib.ListN.{length, get_or, take, drop, length-append, length-drop}
use lib.Seq.{get_or-drop, drop-drop}
use Rattle.words.specs.Words.{bits, payload, SETS}
use Rattle.words.proofs.Laws.{payload-word}
use Rattle.rows.specs.declared.Row.{Row}
use Rattle.rows.specs.Rows.{largest_value}
use Rattle.rows.specs.Bounds.{SmallRanges}
use Rattle.rows.proofs.Laws.{largest-stored}
use Rattle.grammar.specs.Programs.{Program}
use Rattle.grammar.specs.Encoding.{concat}
use Rattle.grammar.specs.WellFormed.{WellFormed}
use Rattle.grammar.proofs.ReadingLaws.{Taken}
use Rattle.reader.specs.Results.{zero_row}
use Rattle.programs.specs.declared.Image.{Image}
use Rattle.programs.specs.Images.{image_of}
use Rattle.runs.specs.Values.{premise_rows}
use Rattle.runs.specs.Runs.{action_of, literal_rows}
use Rattle.runs.proofs.LiteralRows.{premises-same}
use Rattle.runs.proofs.Sizes.{front_stored, ReadRows, guards-read, new-rows-read, ranges-small}
use Rattle.sums.specs.Sums.{combine, const_row}
use Rattle.acceptance.specs.Adding.{mult_of, goal_rows}
use Rattle.lemmas.specs.Lemmas.{goal_number, Lemma, source_rows, negated_goal, rows_of, total, largest_of}
use Rattle.lemmas.specs.LemmaGrammar.{encode_multiplier, encode_lemma, LemmaOk}
use Rattle.lemmas.specs.Sources.{the_program, Held, source_of}
use Rattle.lemmas.specs.declared.Source.{Source}
use Rattle.lemmas.proofs.LemmaLaws.{lemma-codec, first-is, action-rising}
use Rattle.lemmas.proofs.SourceLaws.{counts}
use Rattle.lemmas.proofs.HeadLaws.{source-rows-good}
use Rattle.ask.specs.Weighing.{the_lemma, IsLemma, against}
use Rattle.ask.proofs.Rows.{multiplied, mults_length, negated-is, index-few}

module _ (p : Program) (ok : WellFormed p) (ls : List ℕ) (at : ℕ) (h : IsLemma p ls at) where
  abbrev here : Lemma
  here = the_lemma p ls at

  taken : Taken encode_lemma (LemmaOk p) (drop at ls) at here h.rest h.next
  taken = (lemma-codec p ok).out (drop at ls) at here h.rest h.next h.is

  pub good : LemmaOk p here
  good = taken.good

  -- its first two words
  pub fields : (bits 27 20 (get_or ls at 0) ≡ here.source) × (bits 19 16 (get_or ls at 0) ≡ goal_number here.goal) × (bits 7 0 (get_or ls at 0) ≡ here.index) × (payload (get_or ls (at + 1) 0) ≡ here.premises.0)
  fields =
      let (k, s, g, z, i) = first-is p ok here good in
      let first = sym (get_or-drop at ls 0 0 ∙ ap (λ (n : ℕ). get_or ls n 0) (add-zero at)) ∙ ap (λ (l : List ℕ). get_or l 0 0) taken.words in
      let second = sym (get_or-drop at ls 1 0) ∙ ap (λ (l : List ℕ). get_or l 1 0) taken.words in
      (ap (bits 27 20) first ∙ s, ap (bits 19 16) first ∙ g, ap (bits 7 0) first ∙ i, ap payload second ∙ payload-word SETS here.premises.0 good.payload)

  mults-at : drop (at + 2) ls ≡ concat encode_multiplier here.multipliers ++ h.rest
  mults-at = sym (drop-drop 2 at ls) ∙ ap (drop 2) taken.words

  pub room : at + 2 + length (rows_of p here) ≤ length ls
  room =
      let a = length-drop at ls in
      let b = ap length taken.words in
      let c = length-append (concat encode_multiplier here.multipliers) h.rest in
      let d = mults_length here.multipliers in
      omega (arith, good.counted)

  pub mults_start : at + 2 ≤ length ls
  mults_start = omega (arith, room)

  pub total-is : combine (const_row (pos 0)) (map mult_of (drop (at + 2) ls)) (rows_of p here) ≡ total p here
  total-is = rw mults-at (multiplied (const_row (pos 0)) here.multipliers h.rest (rows_of p here) good.counted good.small)

module _ (ws : List ℕ) {g : Image} (held : Held ws g) (ls : List ℕ) (at : ℕ) (h : IsLemma (the_program ws) ls at) where
  abbrev p : Program
  p = the_program ws

  abbrev l : Lemma
  l = the_lemma p ls at

  ok : WellFormed p
  ok = held.accepted.good

  ranges-are : g.ranges ≡ (image_of p).ranges
  ranges-are = ap (λ (y : Image). y.ranges) held.same

  preds-are : g.pred ≡ (image_of p).pred
  preds-are = ap (λ (y : Image). y.pred) held.same

  pub ranges-ready : SmallRanges g.ranges
  ranges-ready = subst SmallRanges (sym ranges-are) (ranges-small p.ranges ok.ranges.each)

  pub preds-ready : ReadRows g.pred
  preds-ready = subst ReadRows (sym preds-are) (guards-read 14 (length p.ranges) p.predicates ok.predicates.each)

  -- of the numbers that were read and what the source offers
  module _ {w s goal i : ℕ} {x : Source} (ew : w ≡ get_or ls at 0) (es : s ≡ get_or ls (at + 1) 0) (eg : goal ≡ bits 19 16 w) (ei : i ≡ bits 7 0 w)
      (ex : x ≡ source_of p (bits 27 20 (get_or ls at 0))) where
    goal-is : goal ≡ goal_number l.goal
    goal-is = eg ∙ ap (bits 19 16) ew ∙ (fields p ok ls at h).1

    index_is : i ≡ l.index
    index_is = ei ∙ ap (bits 7 0) ew ∙ (fields p ok ls at h).2

    set_is : payload s ≡ l.premises.0
    set_is = ap payload es ∙ (fields p ok ls at h).3

    offers : x ≡ source_of p l.source
    offers = ex ∙ ap (source_of p) (fields p ok ls at h).0

    pub counts-few : (g.preds ≤ 14) × (x.count ≤ 8)
    counts-few = (omega (arith, (counts ws held 0).1, (counts ws held 0).4), rw offers (omega (arith, (source-rows-good p ok l.source).few)))

    pub index-ready : (goal ≤ 2 → i < 14) × (2 < goal → i < 8)
    index-ready = rw (goal-is, index_is) (index-few p ok l.source l.goal l.index (good p ok ls at h).goal)

    pub new-ready : ReadRows x.new
    new-ready = rw offers (new-rows-read (length p.ranges) (action_of p l.source).sets (action-rising (length p.ranges) p.actions l.source ok.actions.each))

    pub rows-ready : ReadRows x.rows
    rows-ready = rw offers (guards-read 8 (length p.ranges) (source_rows p l.source) (source-rows-good p ok l.source).each)

    -- the parts of the sum are the lemma's rows
    module _ {q : Option Row} (eq : q ≡ against g.ranges g.pred x.new goal i) where
      abbrev rows : List Row
      rows = goal_rows q ++ (premise_rows 0 (take g.preds g.pred) (payload s) ++ take x.count x.rows)

      goal-row-is : goal_rows q ≡ negated_goal p l.source l.goal l.index
      goal-row-is = rw (eq, goal-is, index_is, ranges-are, preds-are, offers) (negated-is p ok l.source l.goal l.index (good p ok ls at h).goal)

      premises-are : premise_rows 0 (take g.preds g.pred) (payload s) ≡ literal_rows p l.premises
      premises-are = rw (set_is, preds-are, (counts ws held 0).1) (ap (λ (rs : List Row). premise_rows 0 rs l.premises.0) (front_stored 14 zero_row p.predicates ok.predicates.few) ∙ sym (premises-same p l.premises))

      source_is : take x.count x.rows ≡ source_rows p l.source
      source_is = rw offers (front_stored 8 zero_row (source_rows p l.source) (omega (arith, (source-rows-good p ok l.source).few)))

      rows_are : rows ≡ rows_of p l
      rows_are = λ t. goal-row-is t ++ (premises-are t ++ source_is t)

      pub rows-fit : length rows ≤ length (drop (at + 2) ls)
      rows-fit = omega (arith, room p ok ls at h, ap (λ (rs : List Row). length rs) rows_are, length-drop (at + 2) ls)

      pub weighed-is : {sum : Row} → sum ≡ combine (const_row (pos 0)) (map mult_of (drop (at + 2) ls)) rows → largest_value sum g.ranges ≡ largest_of p l
      weighed-is {sum} e =
          let same : sum ≡ total p l = e ∙ ap (combine (const_row (pos 0)) (map mult_of (drop (at + 2) ls))) rows_are ∙ total-is p ok ls at h in
          (λ t. largest_value (same t) (ranges-are t)) ∙ largest-stored (total p l) p.ranges 8 ok.ranges.few
