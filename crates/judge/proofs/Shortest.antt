-- Request 7: no walk from node 0 to a node with a finding has fewer steps than the path to the first finding's node.
--     walks               the walks of a graph are those along the EDGE words of the list that Judge leaves; a distance is the fewest steps of one
--     least               none in the graph
--     judge-shortest      of Judge's answer and lists
use mathlib.Core.Path.{◌≡◌, refl, sym, ap, ◌∙◌}
use mathlib.Core.Logic.{◌↔◌, ⊎_elim}
use mathlib.Core.Bool.{Bool, true, false, cond}
use mathlib.Core.List.Memᴰ
use mathlib.Core.List.{List, [], ◌∷◌, ◌++◌, Memᴰ}
use Prim.Native.Nat.{ℕ, zero, suc, ◌<◌, ◌≤◌}
use native.Mathlib.Omega.{arith}
use borrow.Author.Tests.{lt-ltb, ltb-true, ne_eqb}
use lib.Dec.{ltb}
use Rattle.std.specs.Prelude.{Ok}
use lib.ListN.{length, get_or}
use Rattle.words.specs.Words.{payload, EDGE, no_node}
use Rattle.words.proofs.Laws.{kind_word, payload-word}
use Rattle.grammar.specs.Programs.{Program}
use Rattle.grammar.specs.WellFormed.{Each}
use Rattle.programs.specs.Calls.{read}
use Rattle.lemmas.specs.Lemmas.{Lemma}
use Rattle.search.specs.Search.{Answer, To, None, Graph, count, distance, edge}
use Rattle.search.specs.Paths.{Walk, stand, go}
use Rattle.search.proofs.Count.{lt_or_le}
use Rattle.records.specs.Records.{most_nodes, edge_word, edge_place, records_of}
use Rattle.records.specs.Naming.{names}
use Rattle.records.proofs.Listed.{edge_at}
use Rattle.abstraction.specs.Faithful.{Faithful}
use Rattle.abstraction.proofs.Unique.{distance-path}
use Rattle.abstraction.proofs.Shortest.{rising, edge-near, walk-far, path-walk}
use Rattle.verdict.specs.Verdicts.{findings_at, findings_from, findings, node_of, path_list, steps_to}
use Rattle.verdict.specs.declared.Finding.{Finding}
use Rattle.verdict.specs.declared.Finding.TheVariants.{Forbid, RunOff}
use Rattle.sheet.specs.Sheets.{Due}
use Rattle.sheet.proofs.Pieces.{pieces, in_pieces}
use Rattle.sheet.proofs.Dues.{findings-are}
use Rattle.safety.proofs.Safety.{safe-before}
use Rattle.survey.specs.Surveys.{Survey, stops, draws, survey_program}
use Rattle.judge.specs.Calls.{Judgement, verdict, path_to, judge_survey, judge}
use Rattle.judge.specs.Worth.{Drawn}
use Rattle.judge.specs.Shortest.{walk_end, Least, Shortest, ShortestOf}
use Rattle.judge.proofs.Walks.{findings-at, findings-within, none-lower}
use Rattle.judge.proofs.StepWords.{steps-told}
use Rattle.judge.proofs.Promised.{Known, of-read, Worth, survey-worth, of-judge}

onward : Answer → (ℕ → Answer) → Answer
onward (To m) rest = rest m
onward None rest = None

each_in : (P : Finding → Type 0) (fs : List Finding) → Each P fs → (f : Finding) → Memᴰ f fs → P f
each_in P [] h f d = absurd (Memᴰ.not-nil d)
each_in P (x ∷ fs) h f d = ⊎_elim (λ e. rw e h.0) (each_in P fs h.1 f) (Memᴰ.cases_cons d)

module _ (p : Program) (ls : List Lemma) (g : Graph) (f : Faithful p ls g) where
  abbrev actions : ℕ
  actions = length p.actions

  -- ---- along the EDGE words
  module _ (few : count g ≤ most_nodes) (gl rest : List ℕ) (is : gl ≡ records_of actions g (count g) ++ rest) where
    word-names : (x : Answer) → ((m : ℕ) → x ≡ To m → m < most_nodes) → (js : List ℕ)
        → cond (names (edge_word x)) (walk_end actions gl (payload (edge_word x)) js) None ≡ onward x (λ m. walk_end actions gl m js)
    unfolding onward
    word-names None low js = refl
    word-names (To m) low js =
        let small : m < most_nodes = low m refl in
        rw (kind_word EDGE m (omega arith), payload-word EDGE m (omega arith), ne_eqb m no_node (λ z. omega arith)) refl

    word-step : (js : List ℕ) (k j : ℕ) → k < count g → j < actions → walk_end actions gl k (j ∷ js) ≡ onward (edge actions g k j) (λ m. walk_end actions gl m js)
    unfolding walk_end
    word-step js k j h l =
        let at : get_or gl (edge_place actions k j) 0 ≡ edge_word (edge actions g k j) = ap (λ (l : List ℕ). get_or l (edge_place actions k j) 0) is ∙ edge_at actions g (count g) rest k j h l in
        rw (lt-ltb j actions l, at) (word-names (edge actions g k j) (λ m e. omega (arith, (edge-near p ls g f k j m h l e).0)) js)

    to-walk : (js : List ℕ) (k n : ℕ) → k < count g → walk_end actions gl k js ≡ To n → Walk actions g k js n
    unfolding walk_end onward
    to-walk [] k n h e = let same : k ≡ n = cc in rw (← same) (stand h)
    to-walk (j ∷ js) k n h e = test (ltb j actions) refl (to-walk js)
      where
        by : j < actions → (x : Answer) → edge actions g k j ≡ x → onward x (λ m. walk_end actions gl m js) ≡ To n
            → ((m n : ℕ) → m < count g → walk_end actions gl m js ≡ To n → Walk actions g m js n) → Walk actions g k (j ∷ js) n
        by l (To m) q s on = go l q (on m n (edge-near p ls g f k j m h l q).0 s)
        by l None q s on = cc

        test : (b : Bool) → ltb j actions ≡ b → ((m n : ℕ) → m < count g → walk_end actions gl m js ≡ To n → Walk actions g m js n) → Walk actions g k (j ∷ js) n
        test true t on = let l = ltb-true j actions t in by l (edge actions g k j) refl (sym (word-step js k j h l) ∙ e) on
        test false t on = let no : None ≡ To n = rw t at e in cc

    from-walk : {js : List ℕ} {k n : ℕ} → k < count g → Walk actions g k js n → walk_end actions gl k js ≡ To n
    unfolding walk_end onward
    from-walk h (stand b) = refl
    from-walk {k = k} h (go {m = m} {j = j} {js = js} l e w) = word-step js k j h l ∙ rw e (from-walk (edge-near p ls g f k j m h l e).0 w)

  -- ---- along the edges
  in-nodes : (k n : ℕ) → findings_from p ls g k n ≡ pieces (findings_at p ls g) k n
  unfolding findings_from pieces
  in-nodes k zero = refl
  in-nodes k (suc n) = rw (in-nodes (suc k) n) refl

  -- the first finding's node is the lowest that has one
  lowest : (x : Finding) (fs : List Finding) → findings p ls g ≡ x ∷ fs → (y : Finding) → Due p ls g y → (node_of x ≤ node_of y) × (node_of y < count g)
  lowest x fs e y due =
      let (k, h, here) = (in_pieces (findings_at p ls g) y (count g)).0 (rw (in-nodes 0 (count g)) at ((findings-are p ls g y).1 due)) in
      let at : node_of y ≡ k = each_in (λ h. node_of h ≡ k) (findings_at p ls g k) (findings-at p ls g k) y here in
      let not-before : node_of x ≤ k = ⊎_elim (λ lt. absurd (Memᴰ.not-nil (rw (none-lower p ls g x fs e k lt) at here))) (λ le. le) (lt_or_le k (node_of x)) in
      (omega (arith, at, not-before), omega (arith, at, h))

  module _ (x : Finding) (fs : List Finding) (e : findings p ls g ≡ x ∷ fs) (few : count g ≤ most_nodes) where
    at-node : node_of x < count g
    at-node = (rw e at (findings-within p ls g)).0

    far : length (steps_to g (node_of x)) ≡ distance g (node_of x)
    far = distance-path p ls g f most_nodes (node_of x) (omega (arith, few, at-node)) at-node

    least : Least p ls g (length (steps_to g (node_of x)))
    least y due js w =
        let (first, here) = lowest x fs e y due in
        omega (arith, far, rising p ls g f (node_of x) (node_of y) first here, walk-far p ls g f (omega (arith, here)) w)

    -- nodes nearer than it have no finding
    clear : (k : ℕ) → k < count g → distance g k < length (steps_to g (node_of x)) → findings_at p ls g k ≡ []
    clear k h near = none-lower p ls g x fs e k (⊎_elim (λ lt. lt) (λ le. absurd (omega (arith, far, near, rising p ls g f (node_of x) k le h))) (lt_or_le k (node_of x)))

  walks-in-words : {nodes edges : ℕ} {before after : List ℕ} → Drawn p ls g nodes edges before after → (js : List ℕ) (k : ℕ) → 0 < count g
      → (walk_end actions after 0 js ≡ To k) ↔ Walk actions g 0 js k
  walks-in-words {after = after} d js k h = (to-walk d.few after _ d.records js 0 k h, from-walk d.few after _ d.records h)

pub walks : (p : Program) (ls : List Lemma) (g : Graph) (nodes edges : ℕ) (before after : List ℕ) → Drawn p ls g nodes edges before after → (k : ℕ) → k < count g → let a = length p.actions in
    ((js : List ℕ) → ((walk_end a after 0 js ≡ To k) ↔ Walk a g 0 js k) × (Walk a g 0 js k → distance g k ≤ length js)) × ((js : List ℕ) × Walk a g 0 js k × (length js ≡ distance g k)) × ((i : ℕ) → i ≤ k → distance g i ≤ distance g k)
walks p ls g nodes edges before after d k h =
    let f = d.faithful in
    let some : 0 < count g = omega (arith, h) in
    let low : k ≤ most_nodes = omega (arith, h, d.few) in (
      λ js. (walks-in-words p ls g f d js k some, walk-far p ls g f some),
      (steps_to g k, path-walk p ls g f most_nodes k low h, distance-path p ls g f most_nodes k low h),
      λ i le. rising p ls g f i k le h,
    )

-- ---- of a judgement, and so of Judge
abbrev Brief : List ℕ → List ℕ → Judgement → Type 0
Brief ws lemmas j = ShortestOf ws lemmas j.answer j.graph j.path

module _ (ws lemmas gl pl : List ℕ) where
  module _ (p : Program) (ls : List Lemma) (g : Graph) (gl' : List ℕ) (k : Known ws lemmas gl p ls g gl') where
    shortest : (x : Finding) (fs : List Finding) → findings p ls g ≡ x ∷ fs → Shortest gl' (path_list (steps_to g (node_of x)) pl) p ls
    shortest x fs e =
        let f = k.drawn.faithful in
        let few = k.drawn.few in
        let stored = at-node p ls g f x fs e few in
        let first = least p ls g f x fs e few in
        rw (steps-told p k.good ls g f few (node_of x) stored pl) (
          g,
          f,
          first,
          λ y due js w. first y due js ((walks-in-words p ls g f k.drawn js (node_of y) (omega (arith, stored))).0 w),
          safe-before p k.good ls k.lemmas_good g f (length (steps_to g (node_of x))) (clear p ls g f x fs e few),
        )

    verdict-short : (fs : List Finding) → findings p ls g ≡ fs → ShortestOf ws lemmas (Ok (verdict g fs)) gl' (path_list (path_to g fs) pl)
    verdict-short [] e = tt
    verdict-short (Forbid n b ∷ fs) e = of-read k _ (shortest (Forbid n b) fs e)
    verdict-short (RunOff n a v high ∷ fs) e = of-read k _ (shortest (RunOff n a v high) fs e)

  survey-short : (s : Survey) → Worth ws lemmas gl s → Brief ws lemmas (judge_survey s pl)
  survey-short (stops r gl') w = tt
  survey-short (draws p ls g gl') w = verdict-short p ls g gl' w (findings p ls g) refl

  pub judge-shortest : Brief ws lemmas (judge ws lemmas gl pl)
  judge-shortest = of-judge ws lemmas gl pl (Brief ws lemmas) (λ n. tt) (survey-short (survey_program (read ws) lemmas gl) (survey-worth ws lemmas gl))
