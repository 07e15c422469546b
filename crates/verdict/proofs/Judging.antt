-- What is found at a node, and in a graph:
--     node-forbids, node-off              the two answers at a node are the first of its findings
--     nothing_yet, found_here, found_none the loop over the nodes
--     off-within                          the node of what is found
use mathlib.Core.Path.{◌≡◌, refl, sym, ap, ◌∙◌}
use mathlib.Core.Bool.{Bool, true, false, cond}
use Rattle.std.specs.Prelude.{Option, None, Some}
use Rattle.std.specs.Option.{is_some}
use mathlib.Core.List.{List, [], ◌∷◌, ◌++◌}
use Prim.Native.Nat.{ℕ, zero, suc, ◌+◌, ◌-◌, ◌^◌, ◌<◌, ◌≤◌}
use native.Mathlib.Omega.{arith}
use native.Mathlib.Numerals.{add-one}
use lib.Dec.{ltb}
use lib.ListN.{length, get_or, take, drop, replicate, length-drop, length-replicate}
use lib.Seq.{sets, sets-eq, take_at, get_or-drop, drop-drop}
use Rattle.words.specs.Words.{payload, no_literals}
use Rattle.words.specs.declared.Literals.{Literals}
use Rattle.grammar.specs.Programs.{Action, Program}
use Rattle.programs.proofs.Places.{none_action}
use Rattle.programs.proofs.Tables.{table_at}
use Rattle.lemmas.specs.Lemmas.{Lemma}
use Rattle.gather.specs.Gathering.{Table, known, successor_of, first_missing}
use Rattle.search.specs.Search.{Graph, count, node_word}
use Rattle.records.specs.Records.{graph_words, record_place}
use Rattle.records.proofs.Listed.{record_at}
use Rattle.abstraction.specs.Abstraction.{applies, successor}
use Rattle.abstraction.specs.Faithful.{literals_at}
use Rattle.verdict.specs.Verdicts.{ends, has_next, runs_off, findings_at, findings_from, findings}
use Rattle.verdict.specs.declared.cases.Case.{Case}
use Rattle.verdict.specs.declared.Finding.{Finding}
use Rattle.verdict.specs.declared.Finding.TheVariants.{Forbid, RunOff}
use Rattle.verdict.specs.Working.{ends_of, found_of, Within, first_free, end_at, first_unshown, Judging}
use Rattle.verdict.proofs.Combinations.{forbid_or, forbids-are}
use Rattle.verdict.proofs.Ends.{ends_found}

-- ---- lists
pub combinations-all : (cs : List Literals) → length cs ≤ 8 → take (length cs) (sets (replicate 8 no_literals) 0 cs) ≡ cs
combinations-all cs h =
    let room : 0 + length cs ≤ length {A = Literals} (replicate 8 no_literals) = simp length-replicate (omega arith) in
    ap (take (length cs)) (sets-eq cs (replicate 8 no_literals) 0 room) ∙ take_at cs (drop (0 + length cs) (replicate 8 no_literals)) (length cs) refl

-- action j, where the actions from j on begin with it
pub from_j : (xs : List Action) (j : ℕ) (x : Action) (rest : List Action) → drop j xs ≡ x ∷ rest → (j < length xs) × (get_or xs j none_action ≡ x) × (drop (suc j) xs ≡ rest)
from_j xs j x rest e =
    let none : j + 0 ≡ j = omega arith in
    let one : j + 1 ≡ suc j = omega arith in (
      omega (arith, ap length e, length-drop j xs),
      ap (λ (y : ℕ). get_or xs y none_action) (sym none) ∙ sym (get_or-drop j xs 0 none_action) ∙ ap (λ (y : List Action). get_or y 0 none_action) e,
      ap (λ (y : ℕ). drop y xs) (sym one) ∙ sym (drop-drop 1 j xs) ∙ ap (drop 1) e,
    )

-- the combinations of what is judged, and its nodes
module _ {p : Program} {ls : List Lemma} {g : Graph} {c : Case} (J : Judging p ls g c) where
  pub all_combinations : take c.image.now.forbidden c.image.now.literals ≡ p.forbidden
  all_combinations = rw (J.forbidden-count, J.combinations) (combinations-all p.forbidden J.good.forbidden.few)

  pub node_at : (k : ℕ) → k < c.nodes → get_or c.records.list.now (record_place c.records.actions k) 0 ≡ node_word g k
  node_at k h =
      let a = c.records.actions in
      let e : record_place a k + 0 ≡ record_place a k = omega arith in
      ap (λ (y : ℕ). get_or c.records.list.now y 0) (sym e)
      ∙ rw J.listed.1 (record_at a g (count g) (replicate (graph_words - record_place a (count g)) 0 ++ drop graph_words J.listed.0) k 0 (omega (arith, J.size)) (omega (arith, J.size)))

module _ {p : Program} {ls : List Lemma} {g : Graph} {c : Case} (J : Judging p ls g c) (k : ℕ) (hk : k < c.nodes) where
  -- ---- the actions from j on
  module _ (shown : List ℕ) (T : Table c.kept.now (payload (node_word g k)) c.entries.now shown) where
    runs-from : (xs : List Action) (j : ℕ) → drop j p.actions ≡ xs → first_unshown c.asked shown k j (length xs) ≡ found_of (runs_off p ls (literals_at g k) k j xs)
    unfolding first_unshown runs_off
    runs-from [] j e = refl
    runs-from (x ∷ xs) j e =
        let (lt, is, rest) = from_j p.actions j x xs e in
        let few = J.good.actions.few in
        let set = payload (node_word g k) in
        let asks : get_or c.asked j 0 ≡ ends_of x = ap (λ (y : List ℕ). get_or y j 0) J.ends ∙ table_at ends_of p few j lt ∙ ap ends_of is in
        rw (asks, T.same j (omega arith), J.leading j set, runs-from xs (suc j) rest)
        (go (has_next (successor p ls j (literals_at g k))) (ends_found p ls c.entries.now c.kept.now J.good J.applying set k j x is (runs_off p ls (literals_at g k) k (suc j) xs)))
      where
        go : (b : Bool)
            → found_of (ends (applies p ls j (literals_at g k)) k j x.sets ++ runs_off p ls (literals_at g k) k (suc j) xs) ≡ end_at k j (first_missing (ends_of x) (known (get_or c.kept.now j 0) j (payload (node_word g k)) c.entries.now)) (found_of (runs_off p ls (literals_at g k) k (suc j) xs))
            → cond b (end_at k j (first_missing (ends_of x) (known (get_or c.kept.now j 0) j (payload (node_word g k)) c.entries.now)) (found_of (runs_off p ls (literals_at g k) k (suc j) xs))) (found_of (runs_off p ls (literals_at g k) k (suc j) xs))
            ≡ found_of (cond b (ends (applies p ls j (literals_at g k)) k j x.sets) [] ++ runs_off p ls (literals_at g k) k (suc j) xs)
        go true h = sym h
        go false h = refl

  -- ---- what is found at a node with this set
  module _ (set : ℕ) (is : set ≡ payload (get_or c.records.list.now (record_place c.records.actions k) 0)) where
    set_is : set ≡ payload (node_word g k)
    set_is = is ∙ ap payload (node_at J k hk)

    -- the first free combination, or what is found of the actions
    node-found : (o : Option ℕ) → o ≡ first_free set (take c.image.now.forbidden c.image.now.literals)
        → found_of (findings_at p ls g k) ≡ forbid_or k o (found_of (runs_off p ls (literals_at g k) k 0 p.actions))
    node-found o io =
        let small : payload (node_word g k) < 2 ^ 28 = omega arith in
        let free : o ≡ first_free (payload (node_word g k)) p.forbidden = io ∙ rw (set_is, all_combinations J) refl in
        rw free (forbids-are (length p.predicates) (payload (node_word g k)) small k (runs_off p ls (literals_at g k) k 0 p.actions) p.forbidden J.good.forbidden.each)

    pub node-forbids : (b : ℕ) → Some b ≡ first_free set (take c.image.now.forbidden c.image.now.literals) → Some (Forbid k b) ≡ found_of (findings_at p ls g k)
    node-forbids b ib = sym (node-found (Some b) ib)

    pub node-off : None ≡ first_free set (take c.image.now.forbidden c.image.now.literals) → (shown : List ℕ) → Table c.kept.now set c.entries.now shown
        → first_unshown c.asked shown k 0 c.image.now.actions ≡ found_of (findings_at p ls g k)
    node-off none shown T =
        ap (λ (n : ℕ). first_unshown c.asked shown k 0 n) J.action-count ∙ runs-from shown (rw set_is at T) p.actions 0 refl ∙ sym (node-found None none)

-- ---- the node of what is found
pub off-within : (asked shown : List ℕ) (k m : ℕ) → k < m → (j n : ℕ) → Within m (first_unshown asked shown k j n)
unfolding first_unshown
off-within asked shown k m h j zero = tt
off-within asked shown k m h j (suc n) =
    go (is_some (successor_of (get_or shown j 0))) (ltb (first_missing (get_or asked j 0) (get_or shown j 0)) 64) _ _ (first_unshown asked shown k (suc j) n) (off-within asked shown k m h (suc j) n)
  where
    go : (b t : Bool) (v : ℕ) (high : Bool) (rest : Option Finding) → Within m rest → Within m (cond b (cond t (Some (RunOff k j v high)) rest) rest)
    go true true v high rest w = h
    go true false v high rest w = w
    go false t v high rest w = w

-- ---- the loop over the nodes
append_nothing : (xs ys : List Finding) → is_some (found_of xs) ≡ false → found_of (xs ++ ys) ≡ found_of ys
append_nothing [] ys e = refl
append_nothing (x ∷ xs) ys e = cc

append_found : (xs ys : List Finding) → is_some (found_of xs) ≡ true → found_of (xs ++ ys) ≡ found_of xs
append_found [] ys e = cc
append_found (x ∷ xs) ys e = refl

-- nothing is found before node k
abbrev pub Nothing_before : Program → List Lemma → Graph → ℕ → Type 0
Nothing_before p ls g k = found_of (findings_from p ls g k (count g - k)) ≡ found_of (findings p ls g)

module _ (p : Program) (ls : List Lemma) (g : Graph) where
  pub before-first : Nothing_before p ls g 0
  before-first = let z : count g - 0 ≡ count g = omega arith in rw z refl

  module _ (k : ℕ) (same : Nothing_before p ls g k) where
    module _ (h : k < count g) (r : Option Finding) (is : r ≡ found_of (findings_at p ls g k)) where
      from-k : findings_from p ls g k (count g - k) ≡ findings_at p ls g k ++ findings_from p ls g (k + 1) (count g - (k + 1))
      unfolding findings_from
      from-k = let e : count g - k ≡ suc (count g - (k + 1)) = omega arith in rw (e, add-one k) refl

      pub nothing_yet : is_some r ≡ false → Nothing_before p ls g (k + 1)
      nothing_yet e = sym (ap found_of from-k ∙ append_nothing (findings_at p ls g k) _ (ap is_some (sym is) ∙ e)) ∙ same

      pub found_here : is_some r ≡ true → r ≡ found_of (findings p ls g)
      found_here e = is ∙ sym (ap found_of from-k ∙ append_found (findings_at p ls g k) _ (ap is_some (sym is) ∙ e)) ∙ same

    pub found_none : count g ≤ k → None ≡ found_of (findings p ls g)
    unfolding findings_from
    found_none h = let e : count g - k ≡ 0 = omega arith in rw e at same
