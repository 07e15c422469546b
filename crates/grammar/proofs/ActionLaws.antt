-- An action and its words, and a forbidden combination and its word.
use mathlib.Core.Path.{◌≡◌, refl, ap, ◌∙◌}
use mathlib.Core.Bool.{Bool, true, false, ◌&&◌}
use mathlib.Core.List.{List, [], ◌∷◌, ◌++◌, append_assoc}
use Prim.Native.Nat.{ℕ, zero, suc, ◌+◌, ◌*◌, ◌≤◌}
use native.Mathlib.Omega.{arith}
use lib.Dec.{eqb, ltb, leb}
use lib.ListN.{length}
use borrow.Author.Tests.{eqb-true, eq-eqb, ltb-true, lt-ltb, leb-true, le-leb}
use Rattle.integers.proofs.Tests.{and-true}
use Rattle.words.specs.Words.{bits, kind_of, payload, word, TERM, ACTION, SET}
use Rattle.words.proofs.Laws.{kind_word, payload-word, word_split}
use Rattle.grammar.specs.Reading.{got, one, always, begins, times}
use Rattle.grammar.specs.Programs.{Assignment, Action}
use Rattle.grammar.specs.Grammar.{row, assignment, sets, action}
use Rattle.grammar.specs.Encoding.{concat, encode_row, encode_set, encode_action}
use Rattle.grammar.specs.WellFormed.{SetOk, Rising, ActionOk}
use Rattle.grammar.proofs.ReadingLaws.{Codec, Taken, retaken, bound, joined, one_out, one_in, times-codec}
use Rattle.grammar.proofs.RowLaws.{row-codec}

-- ---- assignments
abbrev pub set_allowed : ℕ → ℕ → ℕ → Bool
set_allowed vars v w = leb v (payload w) && ltb (payload w) vars

module _ (vars : ℕ) (few : vars ≤ 8) where
  pub assignment-out : (v : ℕ) (ws : List ℕ) (i : ℕ) (s : Assignment) (vs : List ℕ) (j : ℕ) → assignment vars v ws i ≡ got s vs j → Taken encode_set (SetOk vars v) ws i s vs j
  unfolding assignment
  assignment-out v ws i s vs j h =
      bound (one SET always always (set_allowed vars v) ws i) _ h (λ w us k e₁ h₁. bound (row vars us k) _ h₁ (λ r us₁ k₁ e₂ h₂.
      let o = one_out SET always always (set_allowed vars v) ws i w us k e₁ in
      let t = (row-codec vars few).out us k r us₁ k₁ e₂ in
      let (low, high) = and-true (leb v (payload w)) (ltb (payload w) vars) o.allowed_is in
      let first : w ≡ word SET (payload w) = word_split w o.kind_is in
      retaken {a = record { variable = payload w; row = r }} (record {
        words = o.words ∙ rw (← first) (ap (λ (l : List ℕ). w ∷ l) t.words);
        place = omega (arith, o.place, t.place);
        good = record { from = leb-true v (payload w) low; below = ltb-true (payload w) vars high; row = t.good };
      }) h₂))

  set-kind : (s : Assignment) {v : ℕ} → SetOk vars v s → kind_of (word SET s.variable) ≡ SET
  set-kind s p = kind_word SET s.variable (omega (arith, p.below))

  assignment-into : (v : ℕ) (s : Assignment) (vs : List ℕ) (i : ℕ) → SetOk vars v s → begins TERM vs ≡ false → (j : ℕ) × (assignment vars v (encode_set s ++ vs) i ≡ got s vs j)
  unfolding assignment
  assignment-into v s vs i p h =
      let w = word SET s.variable in
      let same : payload w ≡ s.variable = payload-word SET s.variable (omega (arith, p.below)) in
      let a : set_allowed vars v w ≡ true = rw (same, le-leb v s.variable p.from, lt-ltb s.variable vars p.below) refl in
      let (j, e) = (row-codec vars few).into s.row vs (suc i) p.row h in
      (j, rw (one_in SET always always (set_allowed vars v) w (encode_row s.row ++ vs) i (set-kind s p) refl refl a, e) (ap (λ (u : ℕ). got (record { variable = u; row = s.row }) vs j) same))

  sets-out : (n v : ℕ) (ws : List ℕ) (i : ℕ) (ss : List Assignment) (vs : List ℕ) (j : ℕ) → sets vars n v ws i ≡ got ss vs j
      → Taken (concat encode_set) (λ xs. (length xs ≡ n) × Rising vars v xs) ws i ss vs j
  unfolding sets concat
  sets-out zero v ws i ss vs j h = retaken {a = []} (record { words = refl; place = omega arith; good = (refl, tt) }) h
  sets-out (suc n) v ws i ss vs j h =
      bound (assignment vars v ws i) _ h (λ s us k e₁ h₁. bound (sets vars n (suc s.variable) us k) _ h₁ (λ xs us₁ k₁ e₂ h₂.
      let t = assignment-out v ws i s us k e₁ in
      let r = sets-out n (suc s.variable) us k xs us₁ k₁ e₂ in
      let m = joined t r in
      retaken {a = s ∷ xs} (record { words = m.0; place = m.1; good = (ap suc r.good.0, (t.good, r.good.1)) }) h₂))

  sets-head : (v : ℕ) (ss : List Assignment) (vs : List ℕ) → Rising vars v ss → begins TERM vs ≡ false → begins TERM (concat encode_set ss ++ vs) ≡ false
  unfolding concat
  sets-head v [] vs p h = h
  sets-head v (s ∷ ss) vs p h = rw (set-kind s p.0) refl

  sets-into : (v : ℕ) (ss : List Assignment) (vs : List ℕ) (i : ℕ) → Rising vars v ss → begins TERM vs ≡ false → (j : ℕ) × (sets vars (length ss) v (concat encode_set ss ++ vs) i ≡ got ss vs j)
  unfolding sets concat
  sets-into v [] vs i p h = (i, refl)
  sets-into v (s ∷ ss) vs i p h =
      let next = suc s.variable in
      let (k, e₁) = assignment-into v s (concat encode_set ss ++ vs) i p.0 (sets-head next ss vs p.1 h) in
      let (j, e₂) = sets-into next ss vs k p.1 h in
      (j, rw (append_assoc (encode_set s) (concat encode_set ss) vs, e₁, e₂) refl)

-- ---- an action
abbrev pub action_named : ℕ → Bool
action_named w = eqb (bits 27 8 w) 0

abbrev pub action_within : Bool → ℕ → Bool
action_within room w = room && leb (bits 7 4 w) 8 && leb (bits 3 0 w) 8

action_fields : (g n : ℕ) → g ≤ 8 → n ≤ 8 → (bits 7 4 (word ACTION (g * 16 + n)) ≡ g) × (bits 3 0 (word ACTION (g * 16 + n)) ≡ n) × (bits 27 8 (word ACTION (g * 16 + n)) ≡ 0)
action_fields g n a b = (omega arith, omega arith, omega arith)

module _ (vars : ℕ) (few : vars ≤ 8) where
  action-out : (ws : List ℕ) (i : ℕ) (a : Action) (vs : List ℕ) (j : ℕ) → action vars true ws i ≡ got a vs j → Taken encode_action (ActionOk vars) ws i a vs j
  unfolding action
  action-out ws i a vs j h =
      bound (one ACTION action_named (action_within true) always ws i) _ h (λ w us k e₁ h₁. bound (times (bits 7 4 w) (row vars) us k) _ h₁ (λ gs us₁ k₁ e₂ h₂.
      bound (sets vars (bits 3 0 w) 0 us₁ k₁) _ h₂ (λ ss us₂ k₂ e₃ h₃.
      let o = one_out ACTION action_named (action_within true) always ws i w us k e₁ in
      let t = (times-codec (row-codec vars few) (bits 7 4 w)).out us k gs us₁ k₁ e₂ in
      let s = sets-out vars few (bits 3 0 w) 0 us₁ k₁ ss us₂ k₂ e₃ in
      let (g, l) = and-true (leb (bits 7 4 w) 8) (leb (bits 3 0 w) 8) o.within-is in
      let n : bits 27 8 w ≡ 0 = eqb-true (bits 27 8 w) 0 o.named-is in
      let kind = o.kind_is in
      let gl = t.good.0 in
      let sl = s.good.0 in
      let first : w ≡ word ACTION (length gs * 16 + length ss) = rw (gl, sl) (omega arith) in
      let m = joined t s in
      retaken {a = record { guards = gs; sets = ss }} (record {
        words = o.words ∙ rw (← first) (ap (λ (l : List ℕ). w ∷ l) m.0);
        place = omega (arith, o.place, m.1);
        good = record {
          guards = record { few = rw gl (leb-true (bits 7 4 w) 8 g); each = t.good.1 };
          few = rw sl (leb-true (bits 3 0 w) 8 l);
          rising = s.good.1;
        };
      }) h₃)))

  action-kind : (a : Action) → ActionOk vars a → kind_of (word ACTION (length a.guards * 16 + length a.sets)) ≡ ACTION
  action-kind a p = kind_word ACTION (length a.guards * 16 + length a.sets) (omega (arith, p.guards.few, p.few))

  action-into : (a : Action) (vs : List ℕ) (i : ℕ) → ActionOk vars a → begins TERM vs ≡ false → (j : ℕ) × (action vars true (encode_action a ++ vs) i ≡ got a vs j)
  unfolding action
  action-into a vs i p h =
      let g = length a.guards in
      let n = length a.sets in
      let w = word ACTION (g * 16 + n) in
      let gl = p.guards.few in
      let sl = p.few in
      let (bg, bn, named) = action_fields g n gl sl in
      let rest = concat encode_set a.sets ++ vs in
      let (k, e₁) = (times-codec (row-codec vars few) g).into a.guards rest (suc i) (refl, p.guards.each) (sets-head vars few 0 a.sets vs p.rising h) in
      let (j, e₂) = sets-into vars few 0 a.sets vs k p.rising h in (
        j,
        rw (
          append_assoc (concat encode_row a.guards) (concat encode_set a.sets) vs,
          one_in ACTION action_named (action_within true) always w (concat encode_row a.guards ++ rest) i (action-kind a p) (eq-eqb (bits 27 8 w) 0 named)
              (rw (bg, bn, le-leb g 8 gl, le-leb n 8 sl) refl) refl,
          bg,
          bn,
          e₁,
          e₂,
        ) refl,
      )

  pub action-codec : Codec (action vars true) encode_action (ActionOk vars)
  action-codec = record { out = action-out; into = action-into; head = λ a vs p h. rw (action-kind a p) refl }

  pub action-full : (ws : List ℕ) (i : ℕ) (a : Action) (vs : List ℕ) (j : ℕ) → action vars false ws i ≡ got a vs j → ⊥
  unfolding action
  action-full ws i a vs j h = bound (one ACTION action_named (action_within false) always ws i) _ h (λ w us k e₁ h₁.
      let o = one_out ACTION action_named (action_within false) always ws i w us k e₁ in
      let z : ◌≡◌ {A = ℕ} 0 1 = cc o.within-is in omega arith)

  pub action-starts : (a : Action) (vs : List ℕ) → ActionOk vars a → begins ACTION (encode_action a ++ vs) ≡ true
  action-starts a vs p = rw (action-kind a p) refl
