-- Check and Action part, from the image of a program.
use mathlib.Core.Path.{◌≡◌, refl, sym, ap, ◌∙◌}
use mathlib.Core.Bool.{true}
use mathlib.Core.List.{List, [], map}
use Prim.Native.Nat.{ℕ, ◌+◌, ◌-◌, ◌*◌, ◌≤◌, ◌<◌}
use native.Mathlib.Omega.{arith}
use lib.ListN.{length, get_or, take, drop, length-map, length-drop, get_or-eq_default}
use lib.Seq.{length-take-le}
use Rattle.std.specs.Prelude.{Ok, Err, IsOk}
use Rattle.integers.proofs.Fill.{get_d_mapped}
use Rattle.words.specs.declared.Refusal.{Refusal}
use Rattle.grammar.specs.Reading.{Read, got, refused}
use Rattle.grammar.specs.Programs.{Action, Program}
use Rattle.grammar.specs.Grammar.{action}
use Rattle.grammar.specs.Encoding.{encode_action}
use Rattle.grammar.proofs.ProgramLaws.{Accepted, accepted}
use Rattle.actions.specs.declared.Action.{Action as ActionRead}
use Rattle.actions.specs.Results.{action_image, action_read}
use Rattle.programs.specs.declared.Image.{Image}
use Rattle.programs.specs.declared.Part.{Part}
use Rattle.programs.specs.Calls.{read, checked, parts, actions_at, part_of, action_part, PartOf, place_in, part_place, StandsAt, word_at}
use Rattle.programs.specs.Images.{image_of, loaded}
use Rattle.programs.specs.Places.{places, first_action}
use Rattle.programs.proofs.Places.{action_k, none_action, stored_at, length-places}
use Rattle.programs.proofs.ActionParts.{parts_are, places-are, part-is}

-- ---- what `load` gives
pub loaded-ok : (m : Read Program) {x : Image} → Ok x ≡ loaded m → (p : Program) × (us : List ℕ) × (i : ℕ) × (m ≡ got p us i) × (x ≡ image_of p)
loaded-ok (got p us i) e = (p, us, i, refl, cc e)
loaded-ok (refused r) e = cc e

pub loaded-err : (m : Read Program) {r : Refusal} → Err r ≡ loaded m → m ≡ refused r
loaded-err (got p us i) e = cc e
loaded-err (refused q) e = cc e

-- ---- Check
pub check-ok : (m : Read Program) {x : Image} → Ok x ≡ loaded m
    → Ok (record { variables = x.vars; start_rows = x.starts; predicates = x.preds; actions = x.actions; forbidden = x.forbidden }) ≡ checked m
check-ok (got p us i) {x} e = let f : x ≡ image_of p = cc e in rw f refl
check-ok (refused r) e = cc e

pub check-err : (m : Read Program) {r : Refusal} → Err r ≡ loaded m → Err r ≡ checked m
check-err m e = rw (loaded-err m e) refl

-- ---- Action part
pub part-of : (ws : List ℕ) (at n : ℕ) → at + n ≤ length ws → PartOf ws (take n (drop at ws))
part-of ws at n h = (at, ap (λ (m : ℕ). take m (drop at ws)) (sym (length-take-le n (drop at ws) (simp length-drop (omega arith)))))

-- an action's place in the image is where its words begin
stored-place : (p : Program) (k : ℕ) → length p.actions ≤ 16 → k < length p.actions → get_or (image_of p).action_at k 0 ≡ get_or (places encode_action (first_action p) p.actions) k 0
stored-place p k few h =
    let n = length-places encode_action (first_action p) p.actions in
    stored_at 16 0 (places encode_action (first_action p) p.actions) k 0 (omega arith) (omega arith)

-- action k in the image of an accepted program: what is read where it begins, and where it ends
pub record Found (ws : List ℕ) (k : ℕ) (g : Image) (part : List ℕ) : Type 0 where
  pub few : g.vars ≤ 8
  pub small : k < 16
  pub begin : get_or g.action_at k 0 ≤ length ws
  pub there : IsOk (action_read (action g.vars true (drop (get_or g.action_at k 0) ws) (get_or g.action_at k 0)))
  pub ends : {y : ActionRead × ℕ} → Ok y ≡ action_read (action g.vars true (drop (get_or g.action_at k 0) ws) (get_or g.action_at k 0))
      → (get_or g.action_at k 0 ≤ y.1) × (y.1 ≤ length ws) × (take (y.1 - get_or g.action_at k 0) (drop (get_or g.action_at k 0) ws) ≡ part)

read-end : {m : Read Action} {a : Action} {us : List ℕ} {n : ℕ} {y : ActionRead × ℕ} → m ≡ got a us n → Ok y ≡ action_read m → y.1 ≡ n
read-end {a = a} {n = n} {y = y} q e = let p : y ≡ (action_image a, n) = cc (rw q at e) in ap (λ (z : ActionRead × ℕ). z.1) p

span : (ws : List ℕ) (at n : ℕ) {j : ℕ} {part : List ℕ} → at + n ≤ length ws → take n (drop at ws) ≡ part → j ≡ at + n → (at ≤ j) × (j ≤ length ws) × (take (j - at) (drop at ws) ≡ part)
span ws at n {j} h e q = let m : j - at ≡ n = omega arith in (omega arith, omega arith, rw m e)

pub found_in : (ws : List ℕ) (k : ℕ) (p : Program) → Accepted ws p → k < length p.actions → Found ws k (image_of p) (get_or (map encode_action p.actions) k [])
found_in ws k p ok h =
    let few = ok.good.ranges.few in
    let most = ok.good.actions.few in
    let a = get_or p.actions k none_action in
    let t = action_k ws p k ok h in
    let at = get_or (places encode_action (first_action p) p.actions) k 0 in
    let same : get_or (image_of p).action_at k 0 ≡ at = stored-place p k most h in
    record {
      few = few;
      small = omega arith;
      begin = rw same (omega (arith, t.here));
      there = rw (same, t.read) refl;
      ends = λ {y} e.
          let from = get_or (image_of p).action_at k 0 in
          let q : action (length p.ranges) true (drop from ws) from ≡ got a t.rest (at + length (encode_action a)) = rw same t.read in
          rw (same, get_d_mapped encode_action p.actions k none_action [] h) (span ws at (length (encode_action a)) t.here t.words (read-end q e));
    }

pub found : (ws : List ℕ) (k : ℕ) {x : Image} → Ok x ≡ loaded (read ws) → k < x.actions → Found ws k x (action_part ws k)
found ws k {x} e h =
    let (p, us, i, q, f) = loaded-ok (read ws) e in
    let n = ap (λ (y : Image). y.actions) f in
    rw (f, part-is ws p q k) (found_in ws k p (accepted ws p us i q) (omega arith))

-- ---- where the words of an action stand
is-part : (x : Part) {at n : ℕ} → at ≡ x.start → n ≡ x.length → record { start = at; length = n } ≡ x
is-part x e f = rw (e, f)

abbrev Placed : List ℕ → ℕ → Part → Type 0
Placed ws k x = (x ≡ part_place ws k) × StandsAt ws x (action_part ws k)

place-length : (m : Read Program) (ws : List ℕ) (k : ℕ) → (place_in m ws k).length ≡ length (part_of m ws k)
place-length (got p us i) ws k = refl
place-length (refused r) ws k = refl

module _ (ws : List ℕ) (k : ℕ) {p : Program} {us : List ℕ} {i : ℕ} (q : read ws ≡ got p us i) where
  placed : (part_place ws k).start ≡ get_or (actions_at 0 ws) k 0
  placed = rw q refl

  part_k : action_part ws k ≡ get_or (parts ws) k []
  part_k = rw q refl

abbrev nowhere : Part
nowhere = record { start = 0; length = 0 }

-- no program, or no such action
pub no_program : (ws : List ℕ) (k : ℕ) {r : Refusal} → Err r ≡ loaded (read ws) → Placed ws k nowhere
no_program ws k e = rw (loaded-err (read ws) e) (refl, (omega arith, refl))

module _ (ws : List ℕ) (k : ℕ) {x : Image} (e : Ok x ≡ loaded (read ws)) where
  pub no_action_k : x.actions ≤ k → Placed ws k nowhere
  no_action_k h =
      let (p, us, i, q, f) = loaded-ok (read ws) e in
      let ok = accepted ws p us i q in
      let n = ap (λ (y : Image). y.actions) f in
      let l = ap length (parts_are ws p ok) ∙ length-map p.actions encode_action in
      let m = ap length (places-are ws p ok) ∙ length-places encode_action (first_action p) p.actions in
      let none : get_or (parts ws) k [] ≡ [] = get_or-eq_default (parts ws) [] (omega arith) in
      let start : get_or (actions_at 0 ws) k 0 ≡ 0 = get_or-eq_default (actions_at 0 ws) 0 (omega arith) in (
        is-part (part_place ws k) (sym (placed ws k q ∙ start)) (ap length (sym none ∙ sym (part_k ws k q)) ∙ sym (place-length (read ws) ws k)),
        (omega arith, sym none ∙ sym (part_k ws k q)),
      )

  pub place_found : {j : ℕ} → k < x.actions → let at = get_or x.action_at k 0 in
      (at ≤ j) × (j ≤ length ws) × (take (j - at) (drop at ws) ≡ action_part ws k) → Placed ws k (record { start = at; length = j - at })
  place_found {j} h (low, high, words) =
      let (p, us, i, q, f) = loaded-ok (read ws) e in
      let ok = accepted ws p us i q in
      let n = ap (λ (y : Image). y.actions) f in
      let at = get_or x.action_at k 0 in
      let start : at ≡ (part_place ws k).start =
      ap (λ (y : Image). get_or y.action_at k 0) f ∙ stored-place p k ok.good.actions.few (omega arith)
      ∙ ap (λ (ns : List ℕ). get_or ns k 0) (sym (places-are ws p ok)) ∙ sym (placed ws k q) in
      let long : length (take (j - at) (drop at ws)) ≡ j - at = length-take-le (j - at) (drop at ws) (simp length-drop (omega arith)) in
      (is-part (part_place ws k) start (sym long ∙ ap length words ∙ sym (place-length (read ws) ws k)), (omega arith, words))

-- the pointer to word n of a list, by its byte
pub placed_at : (list : ℕ × ℕ) (n : ℕ) {byte : ℕ} → byte ≡ list.1 + 4 * n → (list.0, byte) ≡ word_at list n
placed_at list n h = λ i. (list.0, h i)
