-- What a source offers, from the image of a program.
use mathlib.Core.Path.{◌≡◌, refl, sym, ap, ◌∙◌, subst}
use mathlib.Core.Bool.{Bool, true, false, cond}
use mathlib.Core.List.{List, [], ◌∷◌, map}
use Prim.Native.Nat.{ℕ, zero, suc, ◌+◌, ◌≤◌, ◌<◌}
use native.Mathlib.Omega.{arith}
use native.Mathlib.Decide.{dec_lt}
use lib.Dec.{eqb}
use lib.Seq.{sets, length-sets, length-take-le, get_or-take, ext_get_or}
use lib.ListN.{length, get_or, take, drop, length-map, get_or-eq_default}
use borrow.Author.Tests.{eq-eqb, ne_eqb}
use Rattle.integers.proofs.Fill.{get_d_mapped}
use Rattle.rows.specs.declared.Row.{Row}
use Rattle.grammar.specs.Programs.{Action, Program}
use Rattle.grammar.specs.Grammar.{action}
use Rattle.grammar.specs.Encoding.{encode_action}
use Rattle.reader.specs.Results.{zero_row, zero_rows}
use Rattle.actions.specs.declared.Action.{Action as ActionRead}
use Rattle.std.specs.Prelude.{Result, Ok}
use Rattle.words.specs.declared.Refusal.{Refusal}
use Rattle.actions.specs.NewRows.{keep_rows, assigned}
use Rattle.actions.specs.Results.{action_image, action_read, none_set, variables_set}
use Rattle.programs.specs.declared.Image.{Image}
use Rattle.programs.specs.declared.Shape.{Shape}
use Rattle.programs.specs.Images.{image_of, no_shape, action_shape}
use Rattle.programs.specs.Places.{places, first_action}
use Rattle.programs.proofs.Places.{none_action, action_k, stored_at, blank-at, length-places}
use Rattle.runs.specs.Runs.{action_of}
use Rattle.runs.proofs.Sizes.{ReadRows}
use Rattle.rows.specs.Bounds.{Read, no_row}
use Rattle.lemmas.specs.Lemmas.{START}
use Rattle.lemmas.proofs.LemmaLaws.{action-guards}
use Rattle.lemmas.specs.declared.Source.{Source}
use Rattle.lemmas.specs.Sources.{the_program, Held, eight_rows, source_of, shape_of}

-- the first of some rows are in bounds as these are
pub front_read : (n : ℕ) (rs : List Row) → ReadRows rs → ReadRows (take n rs)
front_read zero rs h i = subst Read (get_or-eq_default rs no_row {n = length rs} (omega arith)) (h (length rs))
front_read (suc n) [] h i = h i
front_read (suc n) (r ∷ rs) h zero = h zero
front_read (suc n) (r ∷ rs) h (suc i) = front_read n rs (λ j. h (suc j)) i

same-action : {y z : ActionRead} {i j : ℕ} → ◌≡◌ {A = Result (ActionRead × ℕ) Refusal} (Ok (y, i)) (Ok (z, j)) → y ≡ z
same-action {y} {z} {i} {j} e = let both : ◌≡◌ {A = ActionRead × ℕ} (y, i) (z, j) = cc e in ap (λ (b : ActionRead × ℕ). b.0) both

none-at : (p : Program) (k : ℕ) → length p.actions ≤ k → action_of p k ≡ none_action
none-at p k l = get_or-eq_default p.actions none_action l

abbrev made : ℕ → List Row → List Row → Source
made n rs new = record { count = n; rows = rs; new = new }

-- the first eight of fourteen rows that at most eight were stored in
eight-stored : (rs : List Row) → length rs ≤ 8 → take 8 (sets zero_rows 0 rs) ≡ sets eight_rows 0 rs
eight-stored rs few = ext_get_or zero_row (take 8 (sets zero_rows 0 rs)) (sets eight_rows 0 rs) (long ∙ sym (length-sets eight_rows 0 rs)) (λ i h. let b : i < 8 = omega (arith, long) in get_or-take 8 (sets zero_rows 0 rs) i zero_row b ∙ at i b)
  where
    long : length (take 8 (sets zero_rows 0 rs)) ≡ 8
    long = length-take-le 8 (sets zero_rows 0 rs) (omega (arith, length-sets zero_rows 0 rs))

    at : (i : ℕ) → i < 8 → get_or (sets zero_rows 0 rs) i zero_row ≡ get_or (sets eight_rows 0 rs) i zero_row
    at i b = elim (dec_lt i (length rs)) [
      | yes h ↦ stored_at 14 zero_row rs i zero_row h (omega arith) ∙ sym (stored_at 8 zero_row rs i zero_row h few)
      | no h ↦ blank-at 14 zero_row rs i zero_row (omega arith) (omega arith) ∙ sym (blank-at 8 zero_row rs i zero_row (omega arith) b)
    ]

offered : (p : Program) (k : ℕ) (b : Bool) (a : Action) → eqb k START ≡ b → action_of p k ≡ a
    → source_of p k ≡ made (length (cond b p.start a.guards)) (sets eight_rows 0 (cond b p.start a.guards)) (assigned keep_rows a.sets)
offered p k b a e f = rw (e, f) refl

-- ---- the shape of a source, from the image alone
shaped : (p : Program) (k : ℕ) (b : Bool) (a : Action) → eqb k START ≡ b → action_of p k ≡ a
    → record { count = length (cond b p.start a.guards); set = variables_set none_set a.sets } ≡ shape_of p k
shaped p k b a e f = rw (e, f) refl

none-shaped : (p : Program) (k : ℕ) → length p.actions ≤ k → (k ≡ START → ⊥) → no_shape ≡ shape_of p k
unfolding variables_set
none-shaped p k l n = shaped p k false none_action (ne_eqb k START n) (none-at p k l)

module _ (p : Program) (few : length p.actions ≤ 16) where
  pub no-shape : no_shape ≡ shape_of p 254
  no-shape = none-shaped p 254 (omega arith) (λ e. omega arith)

  pub shapes-alike : (k : ℕ) → 16 ≤ k → (k ≡ START → ⊥) → shape_of p k ≡ shape_of p 254
  shapes-alike k l n = sym (none-shaped p k (omega arith) n) ∙ no-shape

  pub stored-shape : {shapes : List Shape} → shapes ≡ (image_of p).shapes → (k : ℕ) (d : Shape) → k < length p.actions → get_or shapes k d ≡ action_shape (action_of p k)
  stored-shape same k d l =
      let n = length-map p.actions action_shape in
      ap (λ (ss : List Shape). get_or ss k d) same ∙ stored_at 16 no_shape (map action_shape p.actions) k d (omega arith) (omega arith)
      ∙ get_d_mapped action_shape p.actions k none_action d l

  module _ {g : Image} (same : g ≡ image_of p) where
    pub start-shape : record { count = g.starts; set = none_set } ≡ shape_of p START
    unfolding variables_set
    start-shape = ap (λ (y : Image). record { count = y.starts; set = none_set }) same ∙ shaped p START true none_action refl (none-at p START (omega arith))

    pub shape_at : (k : ℕ) (d : Shape) → k < 16 → get_or g.shapes k d ≡ shape_of p k
    shape_at k d l =
        let n = length-map p.actions action_shape in
        let other : k ≡ START → ⊥ = λ e. omega arith in
        elim (dec_lt k (length p.actions)) [
          | yes h ↦ stored-shape (ap (λ (y : Image). y.shapes) same) k d h ∙ shaped p k false (action_of p k) (ne_eqb k START other) refl
          | no h ↦ ap (λ (y : Image). get_or y.shapes k d) same ∙ blank-at 16 no_shape (map action_shape p.actions) k d (omega arith) l
              ∙ none-shaped p k (omega arith) other
        ]

-- ---- what a source offers
module _ (ws : List ℕ) {g : Image} (h : Held ws g) (k : ℕ) where
  abbrev p : Program
  p = the_program ws

  pub counts : (g.actions ≡ length p.actions) × (g.preds ≡ length p.predicates) × (g.vars ≡ length p.ranges) × (length p.ranges ≤ 8) × (length p.predicates ≤ 14) × (length p.actions ≤ 16)
  counts =
      let ok = h.accepted.good in
      (ap (λ (y : Image). y.actions) h.same, ap (λ (y : Image). y.preds) h.same, ap (λ (y : Image). y.vars) h.same, ok.ranges.few, ok.predicates.few, ok.actions.few)

  pub start-source : {rows : List Row} → k ≡ START → rows ≡ take 8 g.start → made g.starts rows keep_rows ≡ source_of p k
  unfolding assigned
  start-source {rows} e q =
      let m = counts.5 in
      let few : rows ≡ sets eight_rows 0 p.start = q ∙ ap (λ (y : Image). take 8 y.start) h.same ∙ eight-stored p.start h.accepted.good.start.few in
      (λ t. made (h.same t).starts (few t) keep_rows) ∙ sym (offered p k true none_action (eq-eqb k START e) (none-at p k (omega arith)))

  module _ (n : k ≡ START → ⊥) where
    pub no_source : g.actions ≤ k → made 0 eight_rows keep_rows ≡ source_of p k
    unfolding assigned
    no_source l = sym (offered p k false none_action (ne_eqb k START n) (none-at p k (omega (arith, counts.0))))

    module _ (l : k < g.actions) where
      abbrev place : ℕ
      place = get_or g.action_at k 0

      known : k < length p.actions
      known = omega (arith, counts.0)

      place_is : place ≡ get_or (places encode_action (first_action p) p.actions) k 0
      place_is =
          let m = counts.5 in
          let n = length-places encode_action (first_action p) p.actions in
          ap (λ (y : Image). get_or y.action_at k 0) h.same ∙ stored_at 16 0 (places encode_action (first_action p) p.actions) k 0 (omega (arith, known)) (omega arith)

      pub place-within : (g.vars ≤ 8) × (place ≤ length ws) × (k < 16)
      place-within = (omega (arith, counts.2, counts.3), omega (arith, place_is, (action_k ws p k h.accepted known).here), omega (arith, known, counts.5))

      pub action-read : action_read (action g.vars true (drop place ws) place) ≡ Ok (action_image (action_of p k), place + length (encode_action (action_of p k)))
      action-read = rw (counts.2, place_is, (action_k ws p k h.accepted known).read) refl

      pub action-source : {y : ActionRead} {j : ℕ} {rows : List Row} → ◌≡◌ {A = Result (ActionRead × ℕ) Refusal} (Ok (y, j)) (action_read (action g.vars true (drop place ws) place)) → rows ≡ take 8 y.guard
          → made y.guards rows y.rows ≡ source_of p k
      action-source {y} {j} {rows} e q =
          let t = action_k ws p k h.accepted known in
          let s = rw (counts.2, place_is, t.read) at e in
          let f : y ≡ action_image (action_of p k) = same-action s in
          let few : rows ≡ sets eight_rows 0 (action_of p k).guards =
          q ∙ ap (λ (z : ActionRead). take 8 z.guard) f ∙ eight-stored (action_of p k).guards (action-guards (length p.ranges) p.actions k h.accepted.good.actions.each).few in
          (λ i. made (f i).guards (few i) (f i).rows) ∙ sym (offered p k false (action_of p k) (ne_eqb k START n) refl)
