-- The words of the findings of a graph rise, for a well-formed program.
use mathlib.Core.Path.{◌≡◌}
use mathlib.Core.Bool.{Bool, true, false, cond}
use mathlib.Core.List.{List, [], ◌∷◌, ◌++◌, map}
use Prim.Native.Nat.{ℕ, zero, suc, ◌+◌, ◌≤◌, ◌<◌}
use native.Mathlib.Omega.{arith}
use lib.ListN.{length, get_or}
use Rattle.words.specs.Words.{no_literals}
use Rattle.words.specs.LiteralSets.{literals_in}
use Rattle.grammar.specs.Programs.{Assignment, Program}
use Rattle.grammar.specs.WellFormed.{Each, Rising, WellFormed}
use Rattle.runs.specs.Runs.{action_of}
use Rattle.lemmas.specs.Lemmas.{Goal, NotBelow, NotAbove, Lemma}
use Rattle.lemmas.proofs.LemmaLaws.{action-rising}
use Rattle.search.specs.Search.{Graph, count}
use Rattle.abstraction.specs.Abstraction.{applies, successor}
use Rattle.abstraction.specs.Faithful.{literals_at}
use Rattle.verdict.specs.Verdicts.{contradicted, unless, ends, has_next, findings}
use Rattle.verdict.specs.declared.Finding.{Finding}
use Rattle.verdict.specs.declared.Finding.TheVariants.{Forbid, RunOff}
use Rattle.sheet.specs.Sheets.{finding_word, Rises}
use Rattle.sheet.proofs.Pieces.{pieces, combinationsAt, actions_at, findings-pieces}

-- ---- words that rise from lo on and stay below hi
Climbs : ℕ → ℕ → List Finding → Type 0
Climbs lo hi [] = lo ≤ hi
Climbs lo hi (f ∷ fs) = (lo ≤ finding_word f) × Climbs (suc (finding_word f)) hi fs

climbs_lower : (lo mid hi : ℕ) (fs : List Finding) → lo ≤ mid → Climbs mid hi fs → Climbs lo hi fs
unfolding Climbs
climbs_lower lo mid hi [] l h = omega arith
climbs_lower lo mid hi (f ∷ fs) l h = (omega arith, h.1)

climbs_append : (lo mid hi : ℕ) (xs ys : List Finding) → Climbs lo mid xs → Climbs mid hi ys → Climbs lo hi (xs ++ ys)
unfolding Climbs
climbs_append lo mid hi [] ys h q = climbs_lower lo mid hi ys h q
climbs_append lo mid hi (x ∷ xs) ys h q = (h.0, climbs_append (suc (finding_word x)) mid hi xs ys h.1 q)

climbs_from : (lo hi : ℕ) (fs : List Finding) → Climbs lo hi fs → Each (λ w. lo ≤ w) (map finding_word fs)
unfolding Climbs
climbs_from lo hi [] h = tt
climbs_from lo hi (f ∷ fs) h = (h.0, climbs_from lo hi fs (climbs_lower lo (suc (finding_word f)) hi fs (omega arith) h.1))

climbs_rises : (lo hi : ℕ) (fs : List Finding) → Climbs lo hi fs → Rises (map finding_word fs)
unfolding Climbs Rises
climbs_rises lo hi [] h = tt
climbs_rises lo hi (f ∷ fs) h = let next = suc (finding_word f) in (climbs_from next hi fs h.1, climbs_rises next hi fs h.1)

climbs_unless : (lo hi : ℕ) (b : Bool) (f : Finding) → lo ≤ finding_word f → finding_word f < hi → Climbs lo hi (unless b f)
unfolding Climbs
climbs_unless lo hi true f l h = omega arith
climbs_unless lo hi false f l h = (l, h)

climbs_if : (lo hi : ℕ) (b : Bool) (fs : List Finding) → lo ≤ hi → Climbs lo hi fs → Climbs lo hi (cond b fs [])
unfolding Climbs
climbs_if lo hi true fs l h = h
climbs_if lo hi false fs l h = l

-- pieces whose words lie from `at j` on, up to the next piece's
climbs_pieces : (f : ℕ → List Finding) (at : ℕ → ℕ) (top i n : ℕ)
    → at (i + n) ≤ top → ((j : ℕ) → j < i + n → Climbs (at j) (at (suc j)) (f j)) → Climbs (at i) top (pieces f i n)
unfolding Climbs pieces
climbs_pieces f at top i zero l h = let e : i + 0 ≡ i = omega arith in rw e at l
climbs_pieces f at top i (suc n) l h =
    let e : i + suc n ≡ suc i + n = omega arith in
    climbs_append (at i) (at (suc i)) top (f i) (pieces f (suc i) n) (h i (omega arith))
    (climbs_pieces f at top (suc i) n (rw e at l) (λ j below. h j (omega arith)))

-- ---- the findings
-- the word of the low end, the lowest that the ends of an action's variables from v on may have
abbrev low_end : ℕ → ℕ → ℕ → ℕ
low_end k j v = finding_word (RunOff k j v false)

module _ (shows : Goal → ℕ → Bool) (k j vars : ℕ) (few : vars ≤ 8) where
  ends-climb : (v : ℕ) (ss : List Assignment) → v ≤ 8 → Rising vars v ss → Climbs (low_end k j v) (low_end k (suc j) 0) (ends shows k j ss)
  unfolding Climbs ends
  ends-climb v [] l r = omega arith
  ends-climb v (s ∷ ss) l r =
      let u = s.variable in
      let above = r.0.from in
      let below = r.0.below in
      let low = RunOff k j u false in
      let high = RunOff k j u true in
      climbs_append (low_end k j v) (finding_word high) _ (unless (shows NotBelow u) low) _
      (climbs_unless _ _ (shows NotBelow u) low (omega arith) (omega arith))
      (climbs_append (finding_word high) (low_end k j (suc u)) _ (unless (shows NotAbove u) high) (ends shows k j ss)
      (climbs_unless _ _ (shows NotAbove u) high (omega arith) (omega arith)) (ends-climb (suc u) ss (omega arith) r.1))

module _ (p : Program) (good : WellFormed p) (ls : List Lemma) (g : Graph) where
  combinations-climb : (k : ℕ) → Climbs (finding_word (Forbid k 0)) (low_end k 0 0) (combinationsAt p ls g k)
  combinations-climb k =
      let few = good.forbidden.few in
      climbs_pieces _ (λ b. finding_word (Forbid k b)) (low_end k 0 0) 0 (length p.forbidden) (omega arith)
      (λ b l. climbs_unless _ _ (contradicted (literals_in 14 (get_or p.forbidden b no_literals).0) (literals_at g k)) (Forbid k b) (omega arith) (omega arith))

  actions-climb : (k : ℕ) → Climbs (low_end k 0 0) (finding_word (Forbid (suc k) 0)) (actions_at p ls g k)
  actions-climb k =
      let few = good.actions.few in
      let vars = length p.ranges in
      let m = literals_at g k in
      climbs_pieces _ (λ j. low_end k j 0) (finding_word (Forbid (suc k) 0)) 0 (length p.actions) (omega arith)
      (λ j l. climbs_if _ _ (has_next (successor p ls j m)) _ (omega arith)
      (ends-climb (applies p ls j m) k j vars good.ranges.few 0 (action_of p j).sets (omega arith)
      (action-rising vars p.actions j good.actions.each)))

  pub words-rise : Rises (map finding_word (findings p ls g))
  words-rise =
      let n = count g in
      rw (findings-pieces p ls g) (climbs_rises _ (finding_word (Forbid (0 + n) 0)) _ (climbs_pieces _ (λ k. finding_word (Forbid k 0)) _ 0 n (omega arith)
      (λ k l. climbs_append _ _ _ (combinationsAt p ls g k) (actions_at p ls g k) (combinations-climb k) (actions-climb k))))
