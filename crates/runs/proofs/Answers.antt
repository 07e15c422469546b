-- What trying an action begins with, from the image of the program; and what Step answers with it.
use mathlib.Core.Path.{◌≡◌, refl, sym, ap, subst, ◌∙◌}
use mathlib.Core.Bool.{Bool, true, false, cond, not}
use mathlib.Core.List.{List, [], ◌∷◌}
use Prim.Native.Nat.{ℕ, zero, suc, ◌+◌, ◌-◌, ◌≤◌, ◌<◌}
use native.Mathlib.Omega.{arith}
use lib.Dec.{leb, eqb, ltb}
use lib.IntN.{ℤ, pos}
use lib.ListN.{length, get_or, take, drop, replicate}
use lib.Seq.{sets, take_at}
use borrow.Author.Tests.{lt-ltb, le-ltb, lt-leb, eq-eqb, ltb-false, leb-false, eqb-true}
use Rattle.std.specs.Prelude.{Result, Ok, Err}
use Rattle.integers.proofs.Tests.{not-false}
use Rattle.words.specs.declared.Refusal.{Refusal}
use Rattle.words.specs.declared.Refusal.TheVariants.{Absent, Length, State}
use Rattle.rows.specs.declared.Range.{Range}
use Rattle.rows.specs.Rows.{zero_range}
use Rattle.grammar.specs.Reading.{Read, got, refused}
use Rattle.grammar.specs.Programs.{Action, Program}
use Rattle.grammar.specs.Grammar.{action}
use Rattle.grammar.specs.Encoding.{encode_action}
use Rattle.grammar.specs.WellFormed.{Each, ActionOk, WellFormed}
use Rattle.grammar.proofs.ProgramLaws.{accepted}
use Rattle.actions.specs.declared.Action.{Action as ActionRead}
use Rattle.actions.specs.Results.{action_image, action_read}
use Rattle.programs.specs.declared.Image.{Image}
use Rattle.programs.specs.Calls.{read}
use Rattle.programs.specs.Images.{image_of, loaded, zero_ranges}
use Rattle.programs.specs.Places.{places, first_action}
use Rattle.programs.proofs.Places.{action_k, stored_at, length-places}
use Rattle.runs.specs.declared.Begun.{Begun}
use Rattle.runs.specs.Runs.{Inside, lowest_off, action_of}
use Rattle.runs.specs.Calls.{Stepping, ready, step_call}
use Rattle.runs.specs.Values.{padded, begun_on, begun, Good, tried}
use Rattle.runs.proofs.Loops.{lowest-front}
use Rattle.runs.proofs.Sizes.{front_stored, guards-read, new-rows-read, read_small, ranges-small, state-small}
use Rattle.runs.proofs.Trying.{lowest-most}
use Rattle.runs.proofs.Tried.{tried-is}

-- the program that was loaded
pub record Held (ws : List ℕ) (g : Image) : Type 0 where
  pub program : Program
  pub rest : List ℕ
  pub index : ℕ
  pub is_read : read ws ≡ got program rest index
  pub image_is : g ≡ image_of program

pub held : (ws : List ℕ) {g : Image} → Ok g ≡ loaded (read ws) → Held ws g
held ws {g} e = go (read ws) refl e
  where
    go : (m : Read Program) → read ws ≡ m → Ok g ≡ loaded m → Held ws g
    go (got p us i) q f = record { program = p; rest = us; index = i; is_read = q; image_is = cc f }
    go (refused r) q f = let z : ◌≡◌ {A = ℕ} 0 1 = cc f in absurd (omega arith)

pub each_at : (xs : List Action) (n j : ℕ) → Each (ActionOk n) xs → j < length xs → ActionOk n (get_or xs j (record { guards = []; sets = [] }))
each_at [] n j e h = absurd (omega arith)
each_at (x ∷ xs) n zero e h = e.0
each_at (x ∷ xs) n (suc j) e h = each_at xs n j e.1 (omega arith)

module _ (ws : List ℕ) (p : Program) {us : List ℕ} {i : ℕ} (q : read ws ≡ got p us i) (k : ℕ) (s : List ℤ) where
  few : length p.ranges ≤ 8
  few = (accepted ws p us i q).good.ranges.few

  module _ (known : k < length p.actions) where
    module _ (l : length s ≡ length p.ranges) where
      same-off : lowest_off (take (length p.ranges) (sets zero_ranges 0 p.ranges)) (padded s) ≡ lowest_off p.ranges s
      same-off = sym (lowest-front (length p.ranges) (sets zero_ranges 0 p.ranges) (padded s)) ∙ rw (front_stored 8 zero_range p.ranges few, take_at s (replicate (8 - length s) (pos 0)) (length p.ranges) l) refl

      off-range : lowest_off p.ranges s < length p.ranges → ready (read ws) k s ≡ refused (State (lowest_off p.ranges s))
      off-range h = rw (q, lt-leb (length p.actions) k known, eq-eqb (length s) (length p.ranges) l, lt-ltb (lowest_off p.ranges s) (length p.ranges) h) refl

      pub on_range_lem : length p.ranges ≤ lowest_off p.ranges s → ready (read ws) k s ≡ got p us i
      on_range_lem h = rw (q, lt-leb (length p.actions) k known, eq-eqb (length s) (length p.ranges) l, le-ltb (lowest_off p.ranges s) (length p.ranges) h) refl

    -- action k, read from the place that the image holds
    abbrev place : ℕ
    place = get_or (sets (replicate 16 0) 0 (places encode_action (first_action p) p.actions)) k 0

    read-there : (rest : List ℕ) × (end : ℕ) × (action (length p.ranges) true (drop place ws) place ≡ got (action_of p k) rest end)
    read-there =
        let ok = accepted ws p us i q in
        let n = length-places encode_action (first_action p) p.actions in
        let most = ok.good.actions.few in
        let same : place ≡ get_or (places encode_action (first_action p) p.actions) k 0 = stored_at 16 0 (places encode_action (first_action p) p.actions) k 0 (omega arith) (omega arith) in
        let t = action_k ws p k ok known in
        (t.rest, get_or (places encode_action (first_action p) p.actions) k 0 + length (encode_action (action_of p k)), rw same t.read)

-- ---- the same, from the image
module _ (ws : List ℕ) {g : Image} (h : Held ws g) (k : ℕ) (s : List ℤ) where
  abbrev p : Program
  p = h.program

  counts : (g.actions ≡ length p.actions) × (g.vars ≡ length p.ranges) × (g.vars ≤ 8)
  counts =
      let v = ap (λ (y : Image). y.vars) h.image_is in
      let f = few ws p h.is_read k s in
      (ap (λ (y : Image). y.actions) h.image_is, v, omega arith)

  pub vars-few : g.vars ≤ 8
  vars-few = counts.2

  from : {m : Read Program} {b : Result Begun Refusal} → ready (read ws) k s ≡ m → b ≡ begun m k s → b ≡ begun (ready (read ws) k s) k s
  from e f = f ∙ ap (λ (m : Read Program). begun m k s) (sym e)

  module _ (known : k < g.actions) where
    known_in : k < length p.actions
    known_in = omega (arith, counts.0)

    module _ (l : length s ≡ g.vars) {off : ℕ} (o : off ≡ lowest_off (take g.vars g.ranges) (padded s)) where
      long : length s ≡ length p.ranges
      long = l ∙ counts.1

      off-is : off ≡ lowest_off p.ranges s
      off-is = o ∙ (λ i. lowest_off (take (counts.1 i) (h.image_is i).ranges) (padded s)) ∙ same-off ws p h.is_read k s known_in long

      pub begun-off : off < g.vars → Err (State off) ≡ begun (ready (read ws) k s) k s
      begun-off e = from (off-range ws p h.is_read k s known_in long (omega (arith, off-is, counts.1))) (ap (λ (v : ℕ). Err (State v)) off-is)

      pub begun-there : g.vars ≤ off → {y : ActionRead × ℕ} → Ok y ≡ action_read (action g.vars true (drop (get_or g.action_at k 0) ws) (get_or g.action_at k 0))
          → Ok (record { ranges = g.ranges; old = padded s; guards = y.0.guards; guard = y.0.guard; rows = y.0.rows }) ≡ begun (ready (read ws) k s) k s
      begun-there e {y} f =
          let same = h.image_is in
          let (rest, end, t) = read-there ws p h.is_read k s known_in in
          let there : action g.vars true (drop (get_or g.action_at k 0) ws) (get_or g.action_at k 0) ≡ got (action_of p k) rest end
          = (λ i. action (same i).vars true (drop (get_or (same i).action_at k 0) ws) (get_or (same i).action_at k 0)) ∙ t in
          let is : y ≡ (action_image (action_of p k), end) = cc (rw there at f) in
          from (on_range_lem ws p h.is_read k s known_in long (omega (arith, off-is, counts.1)))
          (λ i. Ok (record { ranges = (same i).ranges; old = padded s; guards = (is i).0.guards; guard = (is i).0.guard; rows = (is i).0.rows }))

-- ---- with what was begun
pub both : {a b : Stepping} → a ≡ b → (a.answer ≡ b.answer) × (a.state ≡ b.state)
both e = (ap (λ (y : Stepping). y.answer) e, ap (λ (y : Stepping). y.state) e)

passed : (c : Bool) (r : Refusal) (m : Read Program) {p : Program} {us : List ℕ} {i : ℕ} → cond c (refused r) m ≡ got p us i → (c ≡ false) × (m ≡ got p us i)
passed true r m e = let z : ◌≡◌ {A = ℕ} 0 1 = cc e in absurd (omega arith)
passed false r m e = (refl, e)

-- where nothing is refused: the program was read and has the action, and the state lies in its ranges
pub record Known (m : Read Program) (k : ℕ) (s : List ℤ) (p : Program) (us : List ℕ) (i : ℕ) : Type 0 where
  pub is_read : m ≡ got p us i
  pub known : k < length p.actions
  pub inside : Inside p s

pub ready-known : (m : Read Program) (k : ℕ) (s : List ℤ) {p : Program} {us : List ℕ} {i : ℕ} → ready m k s ≡ got p us i → Known m k s p us i
ready-known (refused r) k s e = let z : ◌≡◌ {A = ℕ} 0 1 = cc e in absurd (omega arith)
ready-known (got p us i) k s {p = p'} e =
    let n = length p.ranges in
    let v = lowest_off p.ranges s in
    let past_Off = cond (ltb v n) (refused (State v)) (got p us i) in
    let past-length = cond (not (eqb (length s) n)) (refused (Length (length s))) past_Off in
    let (a, e₁) = passed (leb (length p.actions) k) (Absent k) past-length e in
    let (b, e₂) = passed (not (eqb (length s) n)) (Length (length s)) past_Off e₁ in
    let (c, same) = passed (ltb v n) (State v) (got p us i) e₂ in
    let on = ltb-false v n c in
    let most = lowest-most p.ranges s in
    let same-program : p ≡ p' = cc same in
    record {
      is_read = same;
      known = subst (λ (x : Program). k < length x.actions) same-program (leb-false (length p.actions) k a);
      inside = subst (λ (x : Program). Inside x s) same-program (record { long = eqb-true (length s) n (not-false (eqb (length s) n) b); none-off = omega arith });
    }

-- what was begun on a program
pub record Trial (ws : List ℕ) (k : ℕ) (s : List ℤ) (b : Begun) : Type 0 where
  pub program : Program
  pub rest : List ℕ
  pub index : ℕ
  pub is-ready : ready (read ws) k s ≡ got program rest index
  pub is-begun : b ≡ begun_on program k s

pub trial : (ws : List ℕ) (k : ℕ) (s : List ℤ) {b : Begun} → Ok b ≡ begun (ready (read ws) k s) k s → Trial ws k s b
trial ws k s {b} e = go (ready (read ws) k s) refl e
  where
    go : (m : Read Program) → ready (read ws) k s ≡ m → Ok b ≡ begun m k s → Trial ws k s b
    go (got p us i) q f = record { program = p; rest = us; index = i; is-ready = q; is-begun = cc f }
    go (refused r) q f = let z : ◌≡◌ {A = ℕ} 0 1 = cc f in absurd (omega arith)

module _ (ws : List ℕ) (k : ℕ) (s : List ℤ) {b : Begun} (t : Trial ws k s b) where
  abbrev gs : List Range
  gs = t.program.ranges

  pub at : Known (read ws) k s t.program t.rest t.index
  at = ready-known (read ws) k s t.is-ready

  pub well-formed : WellFormed t.program
  well-formed = (accepted ws t.program t.rest t.index at.is_read).good

  pub action-ok : ActionOk (length gs) (action_of t.program k)
  action-ok = each_at t.program.actions (length gs) k well-formed.actions.each at.known

  pub short : length s ≤ 8
  short = omega (arith, at.inside.long, well-formed.ranges.few)

  pub good : Good b
  good =
      let ok = action-ok in
      rw t.is-begun (record {
        guards-few = omega (arith, ok.guards.few);
        guards = λ i. read_small (guards-read 14 (length gs) (action_of t.program k).guards ok.guards.each i);
        rows = λ i. read_small (new-rows-read (length gs) (action_of t.program k).sets ok.rising i);
        old = state-small gs s (8 - length s) well-formed.ranges.each at.inside.long (omega (arith, at.inside.none-off));
        ranges = ranges-small gs well-formed.ranges.each;
      })

  pub tried-step : tried b s ≡ step_call ws k s
  tried-step =
      rw (t.is-begun, t.is-ready) (tried-is t.program k s at.inside.long well-formed.ranges.few action-ok)
