-- What is laid at a node is what is found there:
--     free_all     the combinations that no literal contradicts
--     offs-are     the ends that no lemma shows, of the actions that have a successor
--     found_at     both
use mathlib.Core.Path.{◌≡◌, refl, sym, ap, ◌∙◌, subst}
use mathlib.Core.Bool.{Bool, true, false, not, ◌&&◌}
use mathlib.Core.Logic.{◌⊎◌, inl, inr, ⊎_elim}
use mathlib.Core.List.{List, [], ◌∷◌, ◌++◌}
use Prim.Native.Nat.{ℕ, zero, suc, ◌+◌, ◌*◌, ◌/◌, ◌%◌, ◌^◌, ◌<◌, ◌≤◌, min}
use native.Mathlib.Omega.{arith}
use lib.Dec.{eqb}
use lib.ListN.{length, get_or, take, drop}
use borrow.Author.Tests.{eqb-true, eq-eqb, ne_eqb}
use Rattle.integers.proofs.Tests.{same_test}
use Rattle.words.specs.Words.{payload}
use Rattle.words.specs.LiteralSets.{literals_in, has}
use Rattle.words.specs.declared.Literals.{Literals}
use Rattle.grammar.specs.Programs.{Assignment, Action, Program}
use Rattle.grammar.specs.WellFormed.{Each, Rising, LiteralsOk}
use Rattle.actions.specs.Results.{variables_set, none_set}
use Rattle.programs.proofs.Tables.{table_at}
use Rattle.runs.specs.Runs.{action_of}
use Rattle.lemmas.specs.Lemmas.{Goal, NotBelow, NotAbove, Lemma}
use Rattle.lemmas.specs.LemmaGrammar.{sets_variable}
use Rattle.lemmas.proofs.LemmaLaws.{action-rising}
use Rattle.lemmas.proofs.HeadLaws.{marks-of}
use Rattle.sets.specs.Sets.{bit_of}
use Rattle.sets.proofs.Bits.{bit_lt, zero_or_one, bit-less}
use Rattle.gather.specs.Gathering.{Table, low_end, high_end, place_of, known, missing}
use Rattle.search.specs.Search.{Graph, node_word}
use Rattle.search.proofs.Count.{eq_or_ne}
use Rattle.records.specs.Records.{record_place}
use Rattle.abstraction.specs.Abstraction.{applies}
use Rattle.abstraction.specs.Faithful.{literals_at}
use Rattle.verdict.specs.Verdicts.{unless, forbids, ends, runs_off, findings_at}
use Rattle.verdict.specs.declared.Finding.{Finding}
use Rattle.verdict.specs.declared.Finding.TheVariants.{RunOff}
use Rattle.verdict.specs.Working.{ends_of, Judging}
use Rattle.verdict.proofs.Combinations.{contradicted-is}
use Rattle.verdict.proofs.Ends.{rising-within, Asked, asked_is}
use Rattle.verdict.proofs.Judging.{from_j, all_combinations, node_at}
use Rattle.verdict.specs.declared.cases.Case.{Case}
use Rattle.sheet.specs.Laying.{Laid, free, missed, offs}
use Rattle.sheet.proofs.Laying.{laid_both}

-- ---- the combinations
free-is : (preds set k b : ℕ) (cs : List Literals) → set < 2 ^ 28 → Each (LiteralsOk preds) cs → free set k b cs ≡ forbids k (literals_in 14 set) b cs
unfolding free forbids
free-is preds set k b [] h ok = refl
free-is preds set k b (c ∷ cs) h ok = rw (contradicted-is c.0 set ok.0.payload h, free-is preds set k (suc b) cs h ok.1) refl

-- ---- the ends of one action, by the places that are missing
by_digits : (x y z : ℕ) → y < 2 → z < 2 → x + min y z ≡ y → eqb x 1 ≡ (eqb y 1 && not (eqb z 1))
by_digits x y z hy hz e =
    ⊎_elim (λ a. rw (ne_eqb x 1 (λ d. omega (arith, d, e, a)), ne_eqb y 1 (λ d. omega (arith, d, a))) refl)
    (λ a. rw (eq-eqb y 1 a)
    (⊎_elim (λ b. rw (eq-eqb x 1 (omega (arith, e, a, b)), ne_eqb z 1 (λ d. omega (arith, d, b))) refl) (λ b. rw (ne_eqb x 1 (λ d. omega (arith, d, e, a, b)), eq-eqb z 1 b) refl) (zero_or_one hz)))
    (zero_or_one hy)

has-missing : (q a s : ℕ) → has q (missing a s) ≡ (has q a && not (has q s))
has-missing q a s = by_digits (bit_of q (missing a s)) (bit_of q a) (bit_of q s) (bit_lt q a) (bit_lt q s) (bit-less q a s)

not-not : (b : Bool) → not (not b) ≡ b
not-not true = refl
not-not false = refl

module _ (shows : Goal → ℕ → Bool) (m k j vars : ℕ) (few : vars ≤ 8) where
  -- the places of variable u say whether one of its ends is missing
  Says : List Assignment → ℕ → Type 0
  Says ss u = (has (place_of 3 u) m ≡ (sets_variable ss u && not (shows NotBelow u))) × (has (place_of 4 u) m ≡ (sets_variable ss u && not (shows NotAbove u)))

  two-places : (v n : ℕ) → v < 8 → missed m k j (28 + 2 * v) (2 * suc n)
      ≡ unless (not (has (place_of 3 v) m)) (RunOff k j v false) ++ (unless (not (has (place_of 4 v) m)) (RunOff k j v true) ++ missed m k j (28 + 2 * suc v) (2 * n))
  unfolding missed
  two-places v n h =
      let twice : 2 * suc n ≡ suc (suc (2 * n)) = omega arith in
      let low : (28 + 2 * v) / 2 % 14 ≡ v = omega arith in
      let high : (29 + 2 * v) / 2 % 14 ≡ v = omega arith in
      let next : suc (28 + 2 * v) ≡ 29 + 2 * v = omega arith in
      let past : suc (29 + 2 * v) ≡ 28 + 2 * suc v = omega arith in
      rw (twice, next, past, low, high, ne_eqb ((28 + 2 * v) % 2) 1 (λ e. omega (arith, e)), eq-eqb ((29 + 2 * v) % 2) 1 (omega arith)) refl

  not_set : (v : ℕ) (ss : List Assignment) (rest : List Finding) → sets_variable ss v ≡ false → Says ss v
      → unless (not (has (place_of 3 v) m)) (RunOff k j v false) ++ (unless (not (has (place_of 4 v) m)) (RunOff k j v true) ++ rest) ≡ rest
  unfolding Says
  not_set v ss rest e h = rw (h.0, h.1, e) refl

  absent : (v : ℕ) (ss : List Assignment) → Rising vars (suc v) ss → sets_variable ss v ≡ false
  absent v ss r = go (sets_variable ss v) refl
    where
      go : (b : Bool) → sets_variable ss v ≡ b → b ≡ false
      go true e = absurd (omega (arith, rising-within vars (suc v) ss v r e))
      go false e = refl

  module _ (s : Assignment) (ss : List Assignment) where
    set_here : (v : ℕ) → s.variable ≡ v → Says (s ∷ ss) v → {rest : List Finding} → rest ≡ ends shows k j ss
        → unless (not (has (place_of 3 v) m)) (RunOff k j v false) ++ (unless (not (has (place_of 4 v) m)) (RunOff k j v true) ++ rest) ≡ ends shows k j (s ∷ ss)
    unfolding Says ends sets_variable
    set_here v same h e = rw (h.0, h.1, eq-eqb s.variable v same, not-not (shows NotBelow v), not-not (shows NotAbove v), e, same) refl

    later : (u : ℕ) → (s.variable ≡ u → ⊥) → Says (s ∷ ss) u → Says ss u
    unfolding Says sets_variable
    later u other h = rw (ne_eqb s.variable u other) at h

  missed-from : (n v : ℕ) (ss : List Assignment) → v + n ≡ 8 → Rising vars v ss → ((u : ℕ) → v ≤ u → u < 8 → Says ss u) → missed m k j (28 + 2 * v) (2 * n) ≡ ends shows k j ss
  unfolding missed ends sets_variable
  missed-from zero v [] e r h = refl
  missed-from zero v (s ∷ ss) e r h = absurd (omega (arith, r.0.from, r.0.below))
  missed-from (suc n) v [] e r h =
      two-places v n (omega arith) ∙ not_set v [] _ refl (h v (omega arith) (omega arith)) ∙ missed-from n (suc v) [] (omega arith) tt (λ u l. h u (omega arith))
  missed-from (suc n) v (s ∷ ss) e r h =
      two-places v n (omega arith)
      ∙ ⊎_elim (λ same. set_here s ss v same (h v (omega arith) (omega arith)) (missed-from n (suc v) ss (omega arith) (rw same at r.1) (λ u l b. later s ss u (λ q. omega (arith, q, same)) (h u (omega arith) b))))
      (λ other. let r' : Rising vars (suc v) (s ∷ ss) = (record { from = omega (arith, r.0.from, other); below = r.0.below; row = r.0.row }, r.1) in
      not_set v (s ∷ ss) _ (absent v (s ∷ ss) r') (h v (omega arith) (omega arith)) ∙ missed-from n (suc v) (s ∷ ss) (omega arith) r' (λ u l. h u (omega arith))) (eq_or_ne s.variable v)

-- ---- at a node of a graph that is judged
module _ {p : Program} {ls : List Lemma} {g : Graph} {c : Case} (J : Judging p ls g c) where
  module _ (set k j : ℕ) where
    abbrev sets_of : List Assignment
    sets_of = (action_of p j).sets

    abbrev shows : Goal → ℕ → Bool
    shows = applies p ls j (literals_in 14 set)

    abbrev shown : ℕ
    shown = known (get_or c.kept.now j 0) j set c.entries.now

    -- of the two places of each variable, those are asked for that are set
    asks : (u : ℕ) → u < 8 → (q : ℕ) → (q ≡ place_of 3 u) ⊎ (q ≡ place_of 4 u) → has q (ends_of (action_of p j)) ≡ sets_variable sets_of u
    unfolding Asked
    asks u h q place =
        let (to, back) = asked_is (variables_set none_set sets_of) 8 q in
        let marks = marks-of p J.good j in
        same_test _ _
        (λ t. let (v, lt, mark, at) = to (eqb-true _ 1 t) in
        let same : v ≡ u = ⊎_elim (λ a. ⊎_elim (λ b. omega (arith, a, b)) (λ b. omega (arith, a, b)) place) (λ a. ⊎_elim (λ b. omega (arith, a, b)) (λ b. omega (arith, a, b)) place) at in
        sym (marks u) ∙ (rw same at mark))
        (λ t. eq-eqb _ 1 (back (u, h, marks u ∙ t, place)))

    missed-is : missed (missing (ends_of (action_of p j)) shown) k j 28 16 ≡ ends shows k j sets_of
    unfolding Says
    missed-is =
        let few = J.good.ranges.few in
        missed-from shows (missing (ends_of (action_of p j)) shown) k j (length p.ranges) few 8 0 sets_of refl (action-rising (length p.ranges) p.actions j J.good.actions.each)
        (λ u low h. (
          has-missing (place_of 3 u) (ends_of (action_of p j)) shown ∙ rw (asks u h (place_of 3 u) (inl refl), J.applying j set NotBelow u (low_end h) (omega arith)) refl,
          has-missing (place_of 4 u) (ends_of (action_of p j)) shown ∙ rw (asks u h (place_of 4 u) (inr refl), J.applying j set NotAbove u (high_end h) (omega arith)) refl,
        ))

  module _ (k : ℕ) (shown : List ℕ) (T : Table c.kept.now (payload (node_word g k)) c.entries.now shown) where
    offs-from : (xs : List Action) (j : ℕ) → drop j p.actions ≡ xs → offs c.asked shown k j (length xs) ≡ runs_off p ls (literals_at g k) k j xs
    unfolding offs runs_off
    offs-from [] j e = refl
    offs-from (x ∷ xs) j e =
        let (lt, is, rest) = from_j p.actions j x xs e in
        let few = J.good.actions.few in
        let set = payload (node_word g k) in
        let asks : get_or c.asked j 0 ≡ ends_of x = ap (λ (y : List ℕ). get_or y j 0) J.ends ∙ table_at ends_of p few j lt ∙ ap ends_of is in
        let here : missed (missing (ends_of x) (known (get_or c.kept.now j 0) j set c.entries.now)) k j 28 16 ≡ ends (applies p ls j (literals_at g k)) k j x.sets =
        subst (λ (y : Action). missed (missing (ends_of y) (known (get_or c.kept.now j 0) j set c.entries.now)) k j 28 16 ≡ ends (applies p ls j (literals_at g k)) k j y.sets) is (missed-is set k j) in
        rw (asks, T.same j (omega arith), J.leading j set, here, offs-from xs (suc j) rest) refl

    offs-are : offs c.asked shown k 0 c.image.now.actions ≡ runs_off p ls (literals_at g k) k 0 p.actions
    offs-are = rw J.action-count (offs-from p.actions 0 refl)

  free_all : (k : ℕ) → free (payload (node_word g k)) k 0 (take c.image.now.forbidden c.image.now.literals) ≡ forbids k (literals_at g k) 0 p.forbidden
  free_all k = rw (all_combinations J) (free-is (length p.predicates) (payload (node_word g k)) k 0 p.forbidden (omega arith) J.good.forbidden.each)

  -- of node k with this set
  pub found_at : (k : ℕ) → k < c.nodes → {set : ℕ} → set ≡ payload (get_or c.records.list.now (record_place c.records.actions k) 0)
      → {shown : List ℕ} → Table c.kept.now set c.entries.now shown → {o o' o'' : List ℕ} {i i' i'' : ℕ}
      → Laid (free set k 0 (take c.image.now.forbidden c.image.now.literals)) o i o' i' → Laid (offs c.asked shown k 0 c.image.now.actions) o' i' o'' i''
      → Laid (findings_at p ls g k) o i o'' i''
  found_at k h is {shown} T d e =
      let same = is ∙ ap payload (node_at J k h) in
      laid_both (forbids k (literals_at g k) 0 p.forbidden) (runs_off p ls (literals_at g k) k 0 p.actions) (rw (same, free_all k) at d) (rw (offs-are k shown (rw same at T)) at e)
