-- Where an action of an accepted program begins, and what is read there.
use mathlib.Core.Path.{◌≡◌, refl, sym, ap, ◌∙◌}
use mathlib.Core.Bool.{true, false}
use mathlib.Core.List.{List, [], ◌∷◌, ◌++◌, append_assoc}
use Prim.Native.Nat.{ℕ, zero, suc, ◌+◌, ◌-◌, ◌≤◌, ◌<◌}
use native.Mathlib.Omega.{arith}
use native.Mathlib.Nat.{not-suc-le-zero, le_of_suc-le-suc}
use lib.ListN.{length, get_or, take, drop, replicate, length-append, length-drop, length-replicate, get_or-replicate, get_or-append}
use lib.Seq.{sets, sets-eq, get_or-append-add, get_or-drop, drop-append_seam, take-append_seam, drop-drop}
use Rattle.words.specs.Words.{TERM, INIT, PRED}
use Rattle.grammar.specs.Reading.{Reader, got, begins}
use Rattle.grammar.specs.Programs.{Action, Program}
use Rattle.grammar.specs.Grammar.{action}
use Rattle.grammar.specs.Encoding.{concat, encode_range, encode_rows, encode_action, encode_literals}
use Rattle.grammar.specs.WellFormed.{Each}
use Rattle.grammar.proofs.ReadingLaws.{Codec, concat-head}
use Rattle.grammar.proofs.WordLaws.{literals-codec}
use Rattle.grammar.proofs.ActionLaws.{action-codec}
use Rattle.grammar.proofs.ProgramLaws.{Accepted, end_words, encode-nested}
use Rattle.programs.specs.Places.{places, first_action}

abbrev pub none_action : Action
none_action = record { guards = []; sets = [] }

module _ {A : Type 0} (e : A → List ℕ) where
  pub length-places : (i : ℕ) (xs : List A) → length (places e i xs) ≡ length xs
  unfolding places
  length-places i [] = refl
  length-places i (x ∷ xs) = ap suc (length-places (i + length (e x)) xs)

-- a place of a list that was filled from the front
pub stored_in : {A : Type 0} (l xs : List A) (k : ℕ) (d : A) → k < length xs → length xs ≤ length l → get_or (sets l 0 xs) k d ≡ get_or xs k d
stored_in {A} l xs k d h r =
    let room : 0 + length xs ≤ length l = omega arith in
    ap (λ (m : List A). get_or m k d) (sets-eq xs l 0 room) ∙ get_or-append xs (drop (0 + length xs) l) d k h

-- a place of a table that was filled from the front, and one past what it was filled with
module _ {A : Type 0} (n : ℕ) (a : A) (xs : List A) (k : ℕ) (d : A) where
  pub stored_at : k < length xs → length xs ≤ n → get_or (sets (replicate n a) 0 xs) k d ≡ get_or xs k d
  stored_at h l = stored_in (replicate n a) xs k d h (simp length-replicate l)

  pub blank-at : length xs ≤ k → k < n → get_or (sets (replicate n a) 0 xs) k d ≡ a
  blank-at h l =
      let room : 0 + length xs ≤ length (replicate n a) = simp length-replicate (omega arith) in
      let i = k - length xs in
      let there : k ≡ length xs + i = omega arith in
      let past : 0 + length xs + i ≡ k = omega arith in
      let rest = drop (0 + length xs) (replicate n a) in
      ap (λ (m : List A). get_or m k d) (sets-eq xs (replicate n a) 0 room) ∙ ap (λ (m : ℕ). get_or (xs ++ rest) m d) there ∙ get_or-append-add xs rest i d
      ∙ get_or-drop (0 + length xs) (replicate n a) i d ∙ ap (λ (m : ℕ). get_or (replicate n a) m d) past ∙ get_or-replicate n k a d l

-- the k-th of some items whose words stand from index i on
module _ {A : Type 0} {item : Reader A} {e : A → List ℕ} {P : A → Type 0} (c : Codec item e P) (d : A) (ws tail : List ℕ) (free : begins TERM tail ≡ false) where
  pub record ItemAt (i : ℕ) (a : A) : Type 0 where
    pub after : List ℕ
    pub words : drop i ws ≡ e a ++ after
    pub read : item (drop i ws) i ≡ got a after (i + length (e a))

  pub item-at : (i : ℕ) (xs : List A) (k : ℕ) → drop i ws ≡ concat e xs ++ tail → Each P xs → k < length xs → ItemAt (get_or (places e i xs) k 0) (get_or xs k d)
  unfolding places concat
  item-at i [] k h p l = absurd (not-suc-le-zero l)
  item-at i (x ∷ xs) zero h p l =
      let rest = concat e xs ++ tail in
      let here : drop i ws ≡ e x ++ rest = h ∙ append_assoc (e x) (concat e xs) tail in
      let (j, q) = c.into x rest i p.0 (concat-head c xs tail p.1 free) in
      let place = (c.out (e x ++ rest) i x rest j q).place in
      record { after = rest; words = here; read = rw here (rw place at q) }
  item-at i (x ∷ xs) (suc k) h p l =
      let rest = concat e xs ++ tail in
      let here : drop i ws ≡ e x ++ rest = h ∙ append_assoc (e x) (concat e xs) tail in
      let next : drop (i + length (e x)) ws ≡ rest = sym (drop-drop (length (e x)) i ws) ∙ ap (drop (length (e x))) here ∙ drop-append_seam (e x) rest in
      item-at (i + length (e x)) xs k next p.1 (le_of_suc-le-suc l)

-- the words before a program's actions and behind them
abbrev pub before : Program → List ℕ
before p = concat encode_range p.ranges ++ encode_rows INIT p.start ++ encode_rows PRED p.predicates

abbrev pub behind : Program → List ℕ
behind p = concat encode_literals p.forbidden ++ end_words

pub around : (ws : List ℕ) (p : Program) → Accepted ws p → ws ≡ before p ++ (concat encode_action p.actions ++ behind p)
around ws p ok = ok.words ∙ encode-nested p ∙ simp append_assoc

-- action k of an accepted program: its words stand at its place, and it is read there
pub record ActionK (ws : List ℕ) (p : Program) (k at : ℕ) : Type 0 where
  pub here : at + length (encode_action (get_or p.actions k none_action)) ≤ length ws
  pub words : take (length (encode_action (get_or p.actions k none_action))) (drop at ws) ≡ encode_action (get_or p.actions k none_action)
  pub rest : List ℕ
  pub read : action (length p.ranges) true (drop at ws) at ≡ got (get_or p.actions k none_action) rest (at + length (encode_action (get_or p.actions k none_action)))

pub action_k : (ws : List ℕ) (p : Program) (k : ℕ) → Accepted ws p → k < length p.actions → ActionK ws p k (get_or (places encode_action (first_action p) p.actions) k 0)
action_k ws p k ok h =
    let good = ok.good in
    let few = good.ranges.few in
    let tail = behind p in
    let free = concat-head (literals-codec (length p.predicates)) p.forbidden end_words good.forbidden.each refl in
    let from : drop (first_action p) ws ≡ concat encode_action p.actions ++ tail = rw (around ws p ok) (drop-append_seam (before p) (concat encode_action p.actions ++ tail)) in
    let a = get_or p.actions k none_action in
    let t = item-at (action-codec (length p.ranges) few) none_action ws tail free (first_action p) p.actions k from good.actions.each h in
    let l = ap length t.words in
    let m = length-append (encode_action a) t.after in
    let n = length-drop (get_or (places encode_action (first_action p) p.actions) k 0) ws in
    record {
      here = omega arith;
      words = rw t.words (take-append_seam (encode_action a) t.after);
      rest = t.after;
      read = t.read;
    }
