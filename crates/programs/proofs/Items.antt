-- The three loops of a program's reader: ranges, actions and forbidden combinations.
use mathlib.Core.Path.{◌≡◌, refl, sym, ap, ◌∙◌}
use mathlib.Core.Bool.{Bool, true, false}
use mathlib.Core.List.{List, [], ◌∷◌}
use Prim.Native.Nat.{ℕ, suc, ◌+◌, ◌≤◌, ◌<◌}
use native.Mathlib.Omega.{arith}
use native.Mathlib.Numerals.{add-one}
use native.Mathlib.Nat.{add-zero}
use lib.Dec.{ltb}
use lib.ListN.{length, get_or, set, drop, replicate}
use Rattle.std.specs.Prelude.{Result, Ok, Err}
use Rattle.words.specs.Words.{literals_of, no_literals, VAR, ACTION, SETS}
use Rattle.words.specs.declared.Refusal.{Refusal}
use Rattle.words.specs.declared.Refusal.TheVariants.{Word}
use Rattle.words.specs.declared.Literals.{Literals}
use Rattle.rows.specs.declared.Range.{Range}
use Rattle.grammar.specs.Reading.{Read, got, refused, pure, after, due, one, always, begins, many}
use Rattle.grammar.specs.Programs.{Action}
use Rattle.grammar.specs.Grammar.{range_of, range, ranges, action, combination, literals_allowed}
use Rattle.grammar.specs.Encoding.{encode_action}
use Rattle.grammar.proofs.WordLaws.{ordered, range-full, literals-full}
use Rattle.grammar.proofs.ActionLaws.{action-codec, action-full}
use Rattle.reader.specs.Results.{next_of}
use Rattle.reader.proofs.Laws.{err-out, ok-out, head-refused, head-taken, head-at}
use Rattle.reader.proofs.RowsLoop.{left_is, left-within}
use Rattle.actions.specs.declared.Action.{Action as ActionRead}
use Rattle.actions.specs.Results.{action_read}
use Rattle.programs.specs.declared.Ranges.{Ranges}
use Rattle.programs.specs.declared.Shape.{Shape}
use Rattle.programs.specs.declared.Actions.{Actions}
use Rattle.programs.specs.declared.Forbidden.{Forbidden}
use Rattle.programs.specs.Images.{ranges_from, zero_ranges, action_shape, none_stored, actions_from, forbidden_from}
use Rattle.programs.specs.Places.{places}
use Rattle.programs.proofs.ManyLaws.{Loop, stopped, ended, turned, within-limit}

-- ---- ranges
one_none : (kind : ℕ) (f g h : ℕ → Bool) (ws : List ℕ) (i : ℕ) → begins kind ws ≡ false → one kind f g h ws i ≡ refused (Word i)
unfolding one due
one_none kind f g h [] i e = refl
one_none kind f g h (w ∷ ws) i e = rw e refl

pub no_range : (ws : List ℕ) (i : ℕ) → begins VAR ws ≡ false → ranges ws i ≡ refused (Word i)
unfolding ranges
no_range ws i h = rw (one_none VAR always (λ w. true) ordered ws i h) refl

pub some-ranges : (ws : List ℕ) (i : ℕ) → begins VAR ws ≡ true → ranges ws i ≡ many VAR range 8 ws i
unfolding ranges many
some-ranges ws i h = rw h refl

one_more : (k n : ℕ) → k + suc n ≡ suc k + n
one_more k n = omega arith

range-stored : (gs : List Range) (k i j : ℕ) (r : Range) (m : Read (List Range)) → ranges_from gs k i (after m (λ rs. pure (r ∷ rs))) ≡ ranges_from (set gs k r) (k + 1) j m
range-stored gs k i j r (got rs us l) = rw (add-one k, one_more k (length rs)) refl
range-stored gs k i j r (refused x) = refl

module _ (ws : List ℕ) {gs : List Range} {k : ℕ} (t : Loop VAR range 8 ranges_from ws 0 zero_ranges gs k k) where
  abbrev rangesAnswer : Result (Ranges × ℕ) Refusal
  rangesAnswer = ranges_from zero_ranges 0 0 (many VAR range 8 ws 0)

  pub ranges-ended : begins VAR (drop k ws) ≡ false → ◌≡◌ {A = Result (Ranges × ℕ) Refusal} (Ok (record { ranges = gs; count = k }, k)) rangesAnswer
  ranges-ended h = (λ i. Ok (record { ranges = gs; count = sym (add-zero k) i }, k)) ∙ ended VAR range 8 ranges_from ws 0 zero_ranges t h

  module _ (h : begins VAR (drop k ws) ≡ true) where
    abbrev readRange : Result ℕ Refusal
    readRange = next_of (one VAR (λ x. true) (λ x. ltb k 8) (λ x. ordered (get_or ws k 0)) (drop k ws) k)

    pub ranges-stopped : {r : Refusal} → Err r ≡ readRange → Err r ≡ rangesAnswer
    ranges-stopped {r} e = stopped VAR range 8 ranges_from ws 0 zero_ranges t h (rw (head-refused VAR always (λ x. ltb k 8) ordered ws k k r e) refl)

    pub range-turned : {j : ℕ} → Ok j ≡ readRange → (k < 8) × Loop VAR range 8 ranges_from ws 0 zero_ranges (set gs k (range_of (get_or ws k 0))) (k + 1) (k + 1)
    range-turned {j} e =
        let (l, place, q) = head-taken VAR always (λ x. ltb k 8) ordered ws k k j e in
        let taken : range (ltb k 8) (drop k ws) k ≡ got (range_of (get_or ws k 0)) (drop (k + 1) ws) (k + 1) = rw q refl in
        let (room, item) = within-limit VAR range (drop k ws) k 8 k range-full taken in
        (room, turned VAR range 8 ranges_from ws 0 zero_ranges t h room item (omega arith) (range-stored gs k k (k + 1) (range_of (get_or ws k 0))))

-- ---- actions: where each begins is stored, and its shape
action-stored : (s : List ℕ × List Shape) (k i j : ℕ) (a : Action) (x : Shape) (m : Read (List Action)) → j ≡ i + length (encode_action a) → x ≡ action_shape a
    → actions_from s k i (after m (λ rest. pure (a ∷ rest))) ≡ actions_from (set s.0 k i, set s.1 k x) (k + 1) j m
unfolding places
action-stored s k i j a x (got rest us l) e f = rw (add-one k, one_more k (length rest), e, f) refl
action-stored s k i j a x (refused r) e f = refl

module _ (vars : ℕ) (few : vars ≤ 8) (ws : List ℕ) (at : ℕ) where
  abbrev ActionsLoop : List ℕ × List Shape → ℕ → ℕ → Type 0
  ActionsLoop s i k = Loop ACTION (action vars) 16 actions_from ws at none_stored s i k

  abbrev actionsAnswer : Result (Actions × ℕ) Refusal
  actionsAnswer = actions_from none_stored 0 at (many ACTION (action vars) 16 (drop at ws) at)

  module _ {s : List ℕ × List Shape} {i k : ℕ} (t : ActionsLoop s i k) where
    pub actions-ended : begins ACTION (drop i ws) ≡ false
        → ◌≡◌ {A = Result (Actions × ℕ) Refusal} (Ok (record { begin_at = s.0; shapes = s.1; count = k }, i)) actionsAnswer
    unfolding places
    actions-ended h =
        (λ d. Ok (record { begin_at = s.0; shapes = s.1; count = sym (add-zero k) d }, i)) ∙ ended ACTION (action vars) 16 actions_from ws at none_stored t h

    module _ (h : begins ACTION (drop i ws) ≡ true) where
      pub actions-stopped : {r : Refusal} → Err r ≡ action_read (action vars (ltb k 16) (drop i ws) i) → Err r ≡ actionsAnswer
      actions-stopped e = stopped ACTION (action vars) 16 actions_from ws at none_stored t h (err-out _ _ e)

      pub action-turned : {x : ActionRead} {j : ℕ} → ◌≡◌ {A = Result (ActionRead × ℕ) Refusal} (Ok (x, j)) (action_read (action vars (ltb k 16) (drop i ws) i))
          → (k < 16) × ActionsLoop (set s.0 k i, set s.1 k (record { count = x.guards; set = x.set })) j (k + 1)
      action-turned {x} {j} e =
          let (a, us, n, q, p) = ok-out _ _ e in
          let (room, item) = within-limit ACTION (action vars) (drop i ws) i 16 k (action-full vars few) q in
          let o = (action-codec vars few).out (drop i ws) i a us n item in
          let shape : record { count = x.guards; set = x.set } ≡ action_shape a = (λ d. record { count = (p d).0.guards; set = (p d).0.set }) in
          let next = turned ACTION (action vars) 16 actions_from ws at none_stored t h room (rw (left_is ws t.here o) at item) (left-within ws t.here o)
          (λ m. action-stored s k i n a _ m o.place shape) in
          (room, rw (ap (λ (y : ActionRead × ℕ). y.1) p) next)

-- ---- forbidden combinations
literals-stored : (ls : List Literals) (k i j : ℕ) (l : Literals) (m : Read (List Literals)) → forbidden_from ls k i (after m (λ rest. pure (l ∷ rest))) ≡ forbidden_from (set ls k l) (k + 1) j m
literals-stored ls k i j l (got rest us n) = rw (add-one k, one_more k (length rest)) refl
literals-stored ls k i j l (refused x) = refl

module _ (preds : ℕ) (ws : List ℕ) (at : ℕ) where
  abbrev ForbiddenLoop : List Literals → ℕ → ℕ → Type 0
  ForbiddenLoop ls i k = Loop SETS (combination preds) 8 forbidden_from ws at (replicate 8 no_literals) ls i k

  abbrev forbiddenAnswer : Result (Forbidden × ℕ) Refusal
  forbiddenAnswer = forbidden_from (replicate 8 no_literals) 0 at (many SETS (combination preds) 8 (drop at ws) at)

  module _ {ls : List Literals} {i k : ℕ} (t : ForbiddenLoop ls i k) where
    pub forbidden-ended : begins SETS (drop i ws) ≡ false → ◌≡◌ {A = Result (Forbidden × ℕ) Refusal} (Ok (record { literals = ls; count = k }, i)) forbiddenAnswer
    forbidden-ended h = (λ d. Ok (record { literals = ls; count = sym (add-zero k) d }, i)) ∙ ended SETS (combination preds) 8 forbidden_from ws at (replicate 8 no_literals) t h

    module _ (h : begins SETS (drop i ws) ≡ true) where
      abbrev readLiterals : Result ℕ Refusal
      readLiterals = next_of (one SETS (λ x. true) (λ x. ltb k 8) (λ x. literals_allowed preds (get_or ws i 0)) (drop i ws) i)

      pub forbidden-stopped : {r : Refusal} → Err r ≡ readLiterals → Err r ≡ forbiddenAnswer
      forbidden-stopped {r} e = stopped SETS (combination preds) 8 forbidden_from ws at (replicate 8 no_literals) t h (rw (head-refused SETS always (λ x. ltb k 8) (literals_allowed preds) ws i i r e) refl)

      pub literals-turned : {j : ℕ} → Ok j ≡ readLiterals → (k < 8) × ForbiddenLoop (set ls k (literals_of (get_or ws i 0))) j (k + 1)
      literals-turned {j} e =
          let (l, here, q) = head-at SETS always (λ x. ltb k 8) (literals_allowed preds) ws i i j refl e in
          let taken : combination preds (ltb k 8) (drop i ws) i ≡ got (literals_of (get_or ws i 0)) (drop j ws) j = rw q refl in
          let (room, item) = within-limit SETS (combination preds) (drop i ws) i 8 k (literals-full preds) taken in
          (room, turned SETS (combination preds) 8 forbidden_from ws at (replicate 8 no_literals) t h room item here (literals-stored ls k i j (literals_of (get_or ws i 0))))
