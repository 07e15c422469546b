-- Nodes with nothing to find, 64 at once:
--     sets-none                         the loop over the nodes' sets, at its beginning
--     clean-node                        a node that contradicts each combination and is shown to keep to each end has no finding
use mathlib.Core.Path.{◌≡◌, refl, sym, ap, ◌∙◌}
use Rattle.std.specs.Option.{is_some}
use Rattle.std.specs.Prelude.{Option, None}
use mathlib.Core.Bool.{Bool, true, false, cond, not}
use Rattle.std.specs.List.{position_from, range_with_len}
use Rattle.std.proofs.lemmas.List.FromFn.{length-map-range_with_len, get_or-map-range_with_len}
use Rattle.std.proofs.lemmas.Iterator.Adapters.{position_from-zero}
use mathlib.Core.Logic.{⊎_elim}
use mathlib.Core.List.{List, [], ◌∷◌, map}
use Prim.Native.Nat.{ℕ, zero, suc, ◌+◌, ◌*◌, ◌/◌, ◌%◌, ◌<◌, ◌≤◌}
use native.Mathlib.Omega.{arith}
use native.Mathlib.Decide.{dec_lt}
use lib.Bits.{bit_and}
use lib.ListN.{length, get_or, set, take, replicate, length-replicate}
use lib.Seq.{length-sets}
use borrow.Author.Tests.{le-ltb}
use Rattle.words.specs.Words.{payload, no_literals}
use Rattle.words.specs.declared.Literals.{Literals}
use Rattle.grammar.specs.Programs.{Program}
use Rattle.lemmas.specs.Lemmas.{Lemma}
use Rattle.sets.specs.Sets.{Member, clashes}
use Rattle.gather.specs.Gathering.{Table, successor_of, first_missing}
use Rattle.block.specs.Blocks.{after, none_of}
use Rattle.suspects.specs.Suspects.{AllOpposed, Shown, AllKeep}
use Rattle.suspects.proofs.Finding.{fewer}
use Rattle.search.specs.Search.{Graph}
use Rattle.records.specs.Records.{record_place}
use Rattle.verdict.specs.Verdicts.{findings_at}
use Rattle.verdict.specs.declared.cases.Case.{Case}
use Rattle.verdict.specs.declared.Finding.{Finding}
use Rattle.verdict.specs.Working.{found_of, first_free, first_unshown, Judging, SetsFrom, Clean}
use Rattle.verdict.proofs.Judging.{node-off}

-- ---- the nodes' sets
same_at : (x n i : ℕ) → get_or (replicate n x) i x ≡ x
same_at x zero i = refl
same_at x (suc n) zero = refl
same_at x (suc n) (suc i) = same_at x n i

pub sets-none : (c : Case) (k : ℕ) → SetsFrom c k 0 (replicate 64 0)
sets-none c k = record { long = refl; small = λ i. rw (same_at 0 64 i) (omega arith); same = λ i h. absurd (omega arith) }

-- ---- the combinations
free_from : (set n b : ℕ) (cs : List Literals) → n ≤ length cs → ((i : ℕ) → i < n → clashes (get_or cs i no_literals).0 set ≡ true)
    → position_from (λ c. not (clashes c.0 set)) b (take n cs) ≡ None
free_from set zero b cs h f = refl
free_from set (suc n) b [] h f = absurd (omega arith)
free_from set (suc n) b (c ∷ cs) h f = rw (f 0 (omega arith)) (free_from set n (b + 1) cs (omega arith) (λ i l. f (suc i) (omega arith)))

none_free : (set n : ℕ) (cs : List Literals) → n ≤ length cs → ((b : ℕ) → b < n → clashes (get_or cs b no_literals).0 set ≡ true) → None ≡ first_free set (take n cs)
none_free set n cs h f = sym (position_from-zero (λ c. not (clashes c.0 set)) (take n cs) ∙ free_from set n 0 cs h f)

-- ---- the ends
not-given : (g : ℕ) → none_of g ≡ true → is_some (successor_of g) ≡ false
not-given g e = rw e

module _ (asked shown : List ℕ) (k : ℕ) where
  unshown-none : (j n : ℕ) → ((i : ℕ) → j ≤ i → i < j + n → Shown (get_or asked i 0) (get_or shown i 0)) → first_unshown asked shown k j n ≡ None
  unfolding first_unshown
  unshown-none j zero h = refl
  unshown-none j (suc n) h =
      let rest = unshown-none (suc j) n (λ i a b. h i (omega arith) (omega arith)) in
      ⊎_elim (λ e. rw (not-given (get_or shown j 0) e) rest)
      (λ far. rw (le-ltb (first_missing (get_or asked j 0) (get_or shown j 0)) 64 (not-below far), rest) (same (is_some (successor_of (get_or shown j 0)))))
      (h j (omega arith) (omega arith))
    where
      same : (b : Bool) → ◌≡◌ {A = Option Finding} (cond b None None) None
      same true = refl
      same false = refl

      not-below : {x : ℕ} → (x < 64 → ⊥) → 64 ≤ x
      not-below {x} f = elim (dec_lt x 64) [
        | yes h ↦ absurd (f h)
        | no h ↦ omega arith
      ]

-- ---- a node
module _ {p : Program} {ls : List Lemma} {g : Graph} {c : Case} (J : Judging p ls g c) (k : ℕ) (hk : k < c.nodes) where
  pub clean-node : (set : ℕ) → set ≡ payload (get_or c.records.list.now (record_place c.records.actions k) 0) → c.image.now.forbidden ≤ length c.image.now.literals
      → ((b : ℕ) → b < c.image.now.forbidden → clashes (get_or c.image.now.literals b no_literals).0 set ≡ true)
      → ((j : ℕ) → j < c.image.now.actions → Shown (get_or c.asked j 0) (after c.kept.now j set c.entries.now)) → None ≡ found_of (findings_at p ls g k)
  clean-node set is hf free ends =
      let ha : c.image.now.actions ≤ 16 = omega (arith, c.records.few, c.same_actions) in
      let f : ℕ → ℕ = λ j. after c.kept.now j set c.entries.now in
      let shown = map f (range_with_len 0 16) in
      let at : (i : ℕ) → i < 16 → get_or shown i 0 ≡ f i = λ i h. get_or-map-range_with_len f 0 16 i i 0 h (omega arith) in
      let T : Table c.kept.now set c.entries.now shown = record { long = length-map-range_with_len f 0 16; same = at } in
      sym (unshown-none c.asked shown k 0 c.image.now.actions (λ i a b. rw (at i (omega arith)) (ends i (omega arith))))
      ∙ node-off J k hk set is (none_free set c.image.now.forbidden c.image.now.literals hf free) shown T

-- ---- a block: what its two words say of node k + i
module _ {c : Case} where
  pub clean-block : (k : ℕ) (w : List ℕ) (x y : ℕ) → SetsFrom c k 64 w → AllOpposed w c.image.now.literals c.image.now.forbidden x
      → AllKeep c.kept.now w c.entries.now c.asked c.image.now.actions y → Clean c k (bit_and x y)
  clean-block k w x y s o h p ls g J i li lk m =
      let (mx, my) = fewer i x y m in
      let set = s.same i li lk in
      let all : length c.image.now.literals ≡ 8 =
      ap length J.combinations ∙ length-sets (replicate 8 no_literals) 0 p.forbidden ∙ length-replicate 8 no_literals in
      clean-node J (k + i) lk _ refl (omega (arith, c.few_forbidden)) (λ b lb. rw (← set) (o.each i b li lb mx)) (λ j lj. rw (← set) (h.each i j li lj my))

  -- what the bits of node k's block say of it
  pub clean_at : (r k : ℕ) → Clean c (k / 64 * 64) r → k < c.nodes → {p : Program} {ls : List Lemma} {g : Graph} → Judging p ls g c → Member (k % 64) r
      → None ≡ found_of (findings_at p ls g k)
  clean_at r k f lt {p} {ls} {g} J m =
      let q : k / 64 * 64 + k % 64 ≡ k = omega arith in
      rw q at (f p ls g J (k % 64) (omega arith) (omega arith) m)
