-- The promises of the requests, with their types and nothing else; what they say of worked shows is in Worked. The calls' own contracts, without any `requires` but `row_at`'s, which is no call from outside; all words are the lent lists' at entry:
--   findings::findings(ws, ls, g, f)    r, g and f at exit are those of listing ws ls g f; SheetOf of r and both lists; r ≡ Ok 0 → SafeOf (read ws); Agrees with Judge's answer, and g at exit is Judge's  crates/findings/src/lib.rt
--   reader::row_at(words, at, vars)     where vars ≤ 8 and at ≤ length words: r has the row and where reading goes on, or the refusal, of row vars (drop at words) at, and of fed (begun vars at) (drop at words)  crates/reader/src/lib.rt
--   rack::rack_step(ws, k, s)           r and s at exit are those of rack_call ws k s                                  crates/rack/src/lib.rt
--   runs::step, rack::rack_step         Guarded (ready (read ws) k s) k s r                                           crates/runs/src/lib.rt, crates/rack/src/lib.rt
--   judge::judge, report::report        ShortestOf ws ls r, of g and p at exit; if what was written ends with path_line js, ShortestShow input (length js)  crates/judge/src/lib.rt, crates/report/src/lib.rt
--   exports::bnv_findings, _rack_step   the same, r as the records of numbers findings_of and step_of; the rack's answer is not 2; of both steps it is 1 exactly where row_value is below 0  crates/exports/src/lib.rt
use mathlib.Core.{Path.{◌≡◌}, Bool.{true, false, cond}, Logic.{◌⊎◌, ◌↔◌}, List.{List, ◌∷◌, ◌++◌, map, Memᴰ}}
use Prim.Native.Nat.{ℕ, ◌+◌, ◌^◌, ◌≤◌, ◌<◌}
use Rattle.std.specs.Prelude.{None, Ok, Err}
use lib.{Dec.{eqb}, IntN.{ℤ, pos, ◌+ℤ◌, ◌*ℤ◌}, Signed.{◌≤ℤ◌}, ListN.{length, get_or}}
use Rattle.words.specs.{Words.{kind_of, payload, DISTANCE, FINDING, signed}, Limits.{most_nodes, most_findings, most_variables}, declared.Refusal.TheVariants.{Word as Missing}, LiteralSets.{Literal, B, NotB, predicate_of, literals_in}}
use Rattle.rows.specs.{declared.Row.{Row}, Rows.{row_value}}
use Rattle.grammar.specs.{Reading.{got}, Programs.{Assignment, Action, Program}, WellFormed.{Each, WellFormed}, Grammar.{row}}
use Rattle.feed.specs.{declared.Said.TheVariants.{Complete}, Steps.{Held, place, row_step, fed, begun}}
use Rattle.lemmas.specs.{Lemmas.{HoldsAfter, FailsAfter, Lemma}, LemmaGrammar.{LemmaOk, sets_variable}}
use Rattle.programs.specs.Calls.{read}
use Rattle.runs.specs.{declared.Failing.{Failing}, declared.Stepped.TheVariants.{RunsOff}, Runs.{all_hold, Inside, Start, new_state, Finished, run}, Guards.{first_failing, Near}, Calls.{step_call}}
use Rattle.sixteen.specs.Sixteen.{in16, cut, wrapped_sum, wrapped_product, wrapped_value}
use Rattle.rack.specs.Rack.{rack_state, rack_run, rack_call}
use Rattle.frame.specs.Frame.{zero_on, untouched}
use Rattle.formula.specs.Formula.{False, And, Disabled, Then, follows}
use Rattle.search.specs.{Search.{To, Graph, count, distance}, Paths.{Walk}}
use Rattle.records.specs.Records.{distance_offset, record_place}
use Rattle.abstraction.specs.{Abstraction.{among, shown, successor, graph}, Faithful.{Faithful}}
use Rattle.verdict.specs.Verdicts.{findings, steps_to}
use Rattle.verdict.specs.declared.Finding.{Finding}
use Rattle.sheet.specs.Sheets.{finding_word, Fits, Due, Sheet, Told}
use Rattle.judge.specs.{declared.Judged.TheVariants.{Safe as IsSafe}, Calls.{judge}, Worth.{Drawn}, Shortest.{walk_end, ShortestOf}}
use Rattle.report.specs.Report.{path_line, lines_of, Ends, ShortestShow}

-- ---- request 1: untouched predicates keep their literal
-- a literal is in the successor exactly if an accepted lemma shows it, or the action leaves its predicate untouched and it is a literal of the node
pub successor-literals : (p : Program) (ls : List Lemma) (k : ℕ) (node next : List Literal) → successor p ls k node ≡ And next → (m : Literal)
    → Memᴰ m next ↔ ((predicate_of m < length p.predicates) × ((shown p ls k node (Then m) ≡ true) ⊎ ((untouched p k (predicate_of m) ≡ true) × Memᴰ m node)))
successor-literals p ls k node next e = Rattle.abstraction.proofs.Kept.successor-literals p ls k node e

-- there is none exactly if a lemma shows that the action cannot happen, or both literals of a predicate follow; so a lemma for the opposite of a literal that is kept still gives none
pub no_successor : (p : Program) (ls : List Lemma) (k : ℕ) (node : List Literal) → let known = follows (shown p ls k node) (untouched p k) (λ m. among m node) in
    ((successor p ls k node ≡ False) ↔ ((shown p ls k node Disabled ≡ true) ⊎ ((j : ℕ) × (j < length p.predicates) × (known (B j) ≡ true) × (known (NotB j) ≡ true))))
    × ((j : ℕ) → j < length p.predicates → untouched p k j ≡ true
    → (Memᴰ (B j) node × (shown p ls k node (Then (NotB j)) ≡ true)) ⊎ (Memᴰ (NotB j) node × (shown p ls k node (Then (B j)) ≡ true)) → successor p ls k node ≡ False)
no_successor p ls k node = (Rattle.formula.proofs.Laws.false-is (shown p ls k node) (untouched p k) (λ m. among m node) (length p.predicates), Rattle.abstraction.proofs.Kept.opposed-none p ls k node)

-- the law behind it: a row with a zero coefficient on every variable that is set keeps its value, at any new state that agrees with the old one on the others
pub frame : (ss : List Assignment) (r : Row) (s t : List ℤ) → zero_on ss r ≡ true → ((v : ℕ) → sets_variable ss v ≡ false → get_or t v (pos 0) ≡ get_or s v (pos 0)) → row_value r t ≡ row_value r s
frame = Rattle.frame.proofs.Frame.frame

-- a lemma that says of an untouched predicate what stands among its own premises can be left out: graph and findings stay
pub needless_lemma : (p : Program) (xs ys : List Lemma) (l : Lemma) (m : Literal)
    → ((l.goal ≡ HoldsAfter) × (m ≡ B l.index)) ⊎ ((l.goal ≡ FailsAfter) × (m ≡ NotB l.index))
    → untouched p l.source (predicate_of m) ≡ true → Memᴰ m (literals_in 14 l.premises.0)
    → (graph p (xs ++ (l ∷ ys)) ≡ graph p (xs ++ ys)) × ((g : Graph) → findings p (xs ++ (l ∷ ys)) g ≡ findings p (xs ++ ys) g)
needless_lemma p xs ys l m says free own =
    (Rattle.abstraction.proofs.Needless.graph_same p xs ys l m says free own, Rattle.verdict.proofs.Needless.findings-same p xs ys l m says free own)

-- ---- request 2: every finding on the sheet
-- a finding is among those of a graph exactly if the request's sentence says so; under the limits its word has 32 bits and its kind, and loses nothing
pub finding : (f : Finding) → ((p : Program) (ls : List Lemma) (g : Graph) → Memᴰ f (findings p ls g) ↔ Due p ls g f)
    × (Fits f → (finding_word f < 2 ^ 32) × (kind_of (finding_word f) ≡ FINDING) × ((f' : Finding) → Fits f' → finding_word f ≡ finding_word f' → f ≡ f'))
finding f = (λ p ls g. Rattle.sheet.proofs.Dues.findings-are p ls g f, λ h. (Rattle.sheet.proofs.Fields.word_small f h, Rattle.sheet.proofs.Fields.word_kind f h, λ f'. Rattle.sheet.proofs.Fields.word_tells f f' h))

-- the words of a graph's findings, at most 135,168, are its sheet, and it has one sheet only: what is due and the order fix the list, word for word
pub sheet : (p : Program) (ls : List Lemma) (g : Graph)
    → (WellFormed p → count g ≤ most_nodes → Sheet p ls g (map finding_word (findings p ls g)) × (length (findings p ls g) ≤ most_findings)) × ((xs ys : List ℕ) → Sheet p ls g xs → Sheet p ls g ys → xs ≡ ys)
sheet p ls g = (λ good few. (Rattle.sheet.proofs.Sheet.sheet p good ls g few, Rattle.sheet.proofs.Most.findings-few p good ls g few), Rattle.sheet.proofs.Sheet.sheet-unique)

-- nothing is missed: at every state of every run from a start state, each combination that it meets and each end by which an action runs off is due
pub nothing-missed : (p : Program) → WellFormed p → (ls : List Lemma) → Each (LemmaOk p) ls → (g : Graph) → Faithful p ls g → (s : List ℤ) → Start p s
    → (ks : List ℕ) → Each (λ k. k < length p.actions) ks → Each (Told p ls g) (run p ks s).states
nothing-missed = Rattle.findings.proofs.Missed.nothing-missed

-- ---- request 3: read a row once
-- the steps, fed the words of any list, give what the grammar's reader of a row gives: the row with the words that are left, the one that ended it first, or the refusal; and the list's end always decides: 2 before the ROW, complete after it
pub row_in_steps : ((vars : ℕ) → vars ≤ most_variables → (i : ℕ) (ws : List ℕ) → fed (begun vars i) ws ≡ row vars ws i)
    × ((h : Held) → (row_step h None).said ≡ cond (eqb h.kept.taken 0) (Err (Missing (place h.kept))) (Ok Complete))
row_in_steps = (Rattle.feed.proofs.Feeding.fed-row, Rattle.feed.proofs.Laws.end_decides)

-- ---- request 4: the rack's sixteen bits
-- cutting is modulo 65,536, and so are the wrapped sum and product; what a row gives in sixteen bits is its exact value, cut and read as two's complement; what sixteen bits hold is read back
pub sixteen_bits : ((z : ℤ) → (cut z < 65536) × ((q : ℤ) × (z ≡ pos (cut z) +ℤ q *ℤ pos 65536)))
    × ((a b : ℤ) → (cut (a +ℤ b) ≡ wrapped_sum (cut a) (cut b)) × (cut (a *ℤ b) ≡ wrapped_product (cut a) (cut b)))
    × ((r : Row) (s : List ℤ) → wrapped_value r (map cut s) ≡ signed 16 (cut (row_value r s))) × ((z : ℤ) → in16 z ≡ true → signed 16 (cut z) ≡ z)
sixteen_bits = Rattle.sixteen.proofs.Laws.sixteen_bits

-- so from any state that sixteen bits hold, the rack stores the exact new values modulo 65,536; its run never ends early, and sixteen bits hold every value on the way
pub rack_stores : (s : List ℤ) → Each (λ z. in16 z ≡ true) s → ((a : Action) → rack_state a s ≡ map (λ z. signed 16 (cut z)) (new_state a s))
    × ((p : Program) (ks : List ℕ) → ((rack_run p ks s).ending ≡ Finished) × Each (λ t. Each (λ z. in16 z ≡ true) t) (rack_run p ks s).states)
rack_stores s h = (λ a. Rattle.rack.proofs.Exact.state-kept a s h, λ p ks. Rattle.rack.proofs.Runs.goes_on_lem p ks s h)

-- the call answers moved or not enabled, or refuses; where Step does not run off, it answers and leaves what Step does. Where the exact run of a list of actions does not, it is the rack's
pub rack_steps : ((ws : List ℕ) (k : ℕ) (s : List ℤ) → ((v : ℕ) → (rack_call ws k s).answer ≡ Ok (RunsOff v) → ⊥) × (((v : ℕ) → (step_call ws k s).answer ≡ Ok (RunsOff v) → ⊥) → rack_call ws k s ≡ step_call ws k s))
    × ((p : Program) → WellFormed p → (ks : List ℕ) (s : List ℤ) → Inside p s → (run p ks s).ending ≡ Finished → rack_run p ks s ≡ run p ks s)
rack_steps = (λ ws k s. (Rattle.rack.proofs.Runs.never_runs_off ws k s, Rattle.rack.proofs.Runs.same_call ws k s), Rattle.rack.proofs.Runs.same-run)

-- after Judge's verdict safe: from any start state and along any list of actions the two runs are the same, and at each of its states the two calls are
pub rack_after_safe : (ws lemmas gl pl : List ℕ) (n e : ℕ) → (judge ws lemmas gl pl).answer ≡ Ok (IsSafe n e) → (p : Program) {us : List ℕ} {i : ℕ} → read ws ≡ got p us i → (s : List ℤ) → Start p s
    → (ks : List ℕ) → Each (λ k. k < length p.actions) ks → (rack_run p ks s ≡ run p ks s) × Each (λ t. (k : ℕ) → rack_call ws k t ≡ step_call ws k t) (run p ks s).states
rack_after_safe ws lemmas gl pl n e h p q = Rattle.rack.proofs.Runs.after-safe ws p q (rw q at (Rattle.judge.proofs.Promised.judge-safe ws lemmas gl pl h))

-- ---- request 5: how near it was
-- rows all hold exactly where the first failing one's value is at least 0. Where one fails, first_failing alone is near: the rows before it hold, and its exact value is below 0
pub first_failing_lem : (rows : List Row) (s : List ℤ) → ((all_hold rows s ≡ true) ↔ (pos 0 ≤ℤ (first_failing rows s).value))
    × ((f : Failing) → Near rows s f ↔ ((all_hold rows s ≡ false) × (f ≡ first_failing rows s)))
first_failing_lem = Rattle.runs.proofs.Guards.first_failing_lem

-- ---- request 6: distance in the node record
-- the third word of each record that a verdict leaves has kind 0, and its payload is the node's distance, which is the length of the path to it; Faithful has the distances, so that graph-faithful and graph_unique are of them too
pub distance-words : (p : Program) (ls : List Lemma) (g : Graph) (n e : ℕ) (before after : List ℕ) → Drawn p ls g n e before after → (k : ℕ) → k < count g
    → let w = get_or after (record_place (length p.actions) k + distance_offset) 0 in (kind_of w ≡ DISTANCE) × (payload w ≡ distance g k) × (length (steps_to g k) ≡ distance g k)
distance-words = Rattle.judge.proofs.Distances.distance-words

-- ---- request 7: the shortest press list
-- where Judge's answer is a finding, no walk from node 0 to any node with a finding has fewer steps than there are STEP words in the path list, along the EDGE words of the graph list or in the graph, and every run with fewer moves is safe; so it is with a PATH line
pub shortest : ((ws lemmas gl pl : List ℕ) → let j = judge ws lemmas gl pl in ShortestOf ws lemmas j.answer j.graph j.path)
    × ((b js : List ℕ) → Ends (path_line js) (lines_of b) → ShortestShow b (length js))
shortest = (Rattle.judge.proofs.Shortest.judge-shortest, Rattle.report.proofs.PathLine.path-line)

-- the walks along the words that a verdict leaves are the graph's; a node's distance is the fewest steps of one from node 0 to it, and never falls from one node to a later one
pub walks : (p : Program) (ls : List Lemma) (g : Graph) (n e : ℕ) (before after : List ℕ) → Drawn p ls g n e before after → (k : ℕ) → k < count g → let a = length p.actions in
    ((js : List ℕ) → ((walk_end a after 0 js ≡ To k) ↔ Walk a g 0 js k) × (Walk a g 0 js k → distance g k ≤ length js)) × ((js : List ℕ) × Walk a g 0 js k × (length js ≡ distance g k)) × ((i : ℕ) → i ≤ k → distance g i ≤ distance g k)
walks = Rattle.judge.proofs.Shortest.walks
