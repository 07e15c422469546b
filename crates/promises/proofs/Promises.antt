-- Every promise of the base, with its type and nothing else. The calls' own contracts stand in the sources, without any `requires`; all words are the lent lists' at entry:
--   programs::check(words)             r ≡ check words                                                        crates/programs/src/lib.rt
--   programs::action_part(words, k)    r ≡ action_part words k, a part of words from word part_place .start on  crates/programs/src/lib.rt
--   runs::step(words, k, state)        r and the state at exit are those of step_call words k state            crates/runs/src/lib.rt
--   ask::ask(words, lemmas, k)         r ≡ ask words lemmas k; r ≡ Ok Accepted → TrueIn (read words) lemmas k    crates/ask/src/lib.rt
--   judge::judge(words, lemmas, g, p)  r, g and p at exit are those of judge words lemmas g p, and Demand2Of; r ≡ Ok (Safe n e) → SafeOf (read words)  crates/judge/src/lib.rt
--   view::successor_of(g, n, a, k, j)  r ≡ viewed g n a k j, and so say View::new and View::successor         crates/view/src/lib.rt
--   show::show(bytes, words, g, p)    r, g and p at exit are those of show bytes words g p; words at exit are words_left r bytes words; r ≡ Ok a → a.judged ≡ Ok (Safe n e) → SafeShow bytes  crates/show/src/lib.rt
--   streams::next(way, room, at, a)    r ≡ next way room at a                                                 crates/streams/src/lib.rt
--   report::report(input, lines)       lines_of input is written; if what was written begins with SAFE, SafeShow input  crates/report/src/lib.rt
--   exports::bnv_check(..), ..         r is the record of numbers of the call's answer, by check_of, ..; no answer is 0  crates/exports/src/lib.rt
use mathlib.Core.{Path.{◌≡◌}, Bool.{true}, List.{List, [], ◌∷◌, ◌++◌, map}}
use Prim.Native.Nat.{ℕ, ◌+◌, ◌%◌, ◌<◌, ◌≤◌}
use Rattle.std.specs.Prelude.{Result, Ok}
use lib.{ListN.{length, get_or, take}, IntN.{ℤ, pos}}
use Rattle.grammar.specs.{Reading.{got}, Programs.{Program}, Grammar.{program}, Encoding.{encode, encode_action, concat}, WellFormed.{WellFormed, Each, Few}}
use Rattle.programs.specs.Calls.{read, action_part}
use Rattle.runs.specs.{declared.Stepped.TheVariants.{RunsOff}, Runs.{Inside, Start, run, Safe}, Calls.{step_call}}
use Rattle.lemmas.specs.{Lemmas.{Lemma, accepted as lemmaAccepted}, LemmaGrammar.{read_lemmas, encode_lemma, LemmaOk}, Truth.{True}}
use Rattle.search.specs.Search.{Graph, Done, count, edge}
use Rattle.records.specs.{Records.{graph_words, graph_list}, Naming.{naming}}
use Rattle.abstraction.specs.{Abstraction.{start, answer, graph}, Faithful.{Faithful, Demand2}}
use Rattle.judge.specs.{declared.Judged.TheVariants.{Safe as IsSafe}, Calls.{judge}, Worth.{Drawn, Demand2Of, SafeOf}}
use Rattle.view.specs.Views.{viewed, edge_viewed}
use Rattle.little.specs.LittleEndian.{bytes_of, Below}
use Rattle.show.specs.{declared.Answered.{Answered}, Show.{words_in, show, SafeShow}}
use Rattle.streams.specs.{declared.Way.{Way}, declared.Progress.TheVariants.{Going, Whole}, Streams.{most_tries, streamed, WholeOf}}
use Rattle.lines.specs.Text.{text}
use Rattle.report.specs.Report.{lines_of, Begins}
use Rattle.worked.specs.Shows.{fade, fade_lemmas, house, incident, fade_program, house_program, incident_program}

-- the part of an ACTION word, up to, but without, the next ACTION, SETS or END, is the words of that action and nothing else
pub part-of-action : (ws : List ℕ) (p : Program) {us : List ℕ} {i : ℕ} → read ws ≡ got p us i → (k : ℕ) → action_part ws k ≡ get_or (map encode_action p.actions) k []
part-of-action = Rattle.programs.proofs.ActionParts.part-is

-- two Step calls in a row, neither of which runs off, are the run of the two actions
pub steps_are_runs : (ws : List ℕ) (p : Program) {us : List ℕ} {i : ℕ} → read ws ≡ got p us i → (j k : ℕ) (s : List ℤ) → j < length p.actions → k < length p.actions → Inside p s
    → ((v : ℕ) → (step_call ws j s).answer ≡ Ok (RunsOff v) → ⊥) → ((v : ℕ) → (step_call ws k (step_call ws j s).state).answer ≡ Ok (RunsOff v) → ⊥)
    → (run p (j ∷ k ∷ []) s).states ≡ s ∷ (step_call ws j s).state ∷ (step_call ws k (step_call ws j s).state).state ∷ []
steps_are_runs = Rattle.runs.proofs.Steps.two_calls

-- the definitions say something: the worked shows' words are these programs, Fade and House have start states, and the macro that takes 10 off a level of 5 is not safe, so no lemma list makes it so
pub shows-read : (read fade ≡ got fade_program [] (length fade)) × (read house ≡ got house_program [] (length house)) × (read incident ≡ got incident_program [] (length incident))
shows-read = (Rattle.worked.proofs.Starts.fade-read, Rattle.worked.proofs.Starts.house-read, Rattle.worked.proofs.Starts.incident-read)

pub start-states : Start fade_program (pos 400 ∷ []) × Start house_program (pos 0 ∷ pos 0 ∷ [])
start-states = (Rattle.worked.proofs.Starts.fade_starts, Rattle.worked.proofs.Starts.house_starts)

pub incident_is_unsafe : Safe incident_program → ⊥
incident_is_unsafe = Rattle.worked.proofs.Starts.incident_unsafe

pub incident-never-safe : (lemmas gl pl : List ℕ) (n e : ℕ) → (judge incident lemmas gl pl).answer ≡ Ok (IsSafe n e) → ⊥
incident-never-safe = Rattle.worked.proofs.Starts.incident-never-safe

-- reading the words of a well-formed program gives the program
pub read-encode : (p : Program) → WellFormed p → (j : ℕ) × (program (encode p) 0 ≡ got p [] j)
read-encode = Rattle.grammar.proofs.ProgramLaws.encoded

-- an accepted list is the words of what was read, and what was read is well formed; and both of a lemma list over a well-formed program
pub encode-read : (ws : List ℕ) (p : Program) (vs : List ℕ) (j : ℕ) → program ws 0 ≡ got p vs j → (ws ≡ encode p) × WellFormed p
encode-read ws p vs j h = let a = Rattle.grammar.proofs.ProgramLaws.accepted ws p vs j h in (a.words, a.good)

pub lemmas_read_encode : (p : Program) → WellFormed p → (ls : List Lemma) → Few 512 (LemmaOk p) ls → (j : ℕ) × (read_lemmas p (concat encode_lemma ls) ≡ got ls [] j)
lemmas_read_encode = Rattle.lemmas.proofs.LemmaLaws.lemmas-encoded

pub lemmas_encode_read : (p : Program) → WellFormed p → (ws : List ℕ) (ls : List Lemma) (vs : List ℕ) (j : ℕ) → read_lemmas p ws ≡ got ls vs j → (ws ≡ concat encode_lemma ls) × Few 512 (LemmaOk p) ls
lemmas_encode_read p ok ws ls vs j h = let a = Rattle.lemmas.proofs.LemmaLaws.lemmas-accepted p ok ws ls vs j h in (a.words, a.good)

-- an accepted lemma is true of all whole numbers in the ranges
pub lemma-true : (p : Program) → WellFormed p → (l : Lemma) → LemmaOk p l → lemmaAccepted p l ≡ true → True p l
lemma-true = Rattle.lemmas.proofs.Sound.accepted-true

-- demand 2: the graph is the one that formula (3) describes; a 513th node is needed exactly where more than 512 are reachable
pub graph-faithful : (p : Program) → WellFormed p → (ls : List Lemma) → Each (LemmaOk p) ls → Demand2 p ls (graph p ls)
graph-faithful = Rattle.abstraction.proofs.Demand2.demand2

-- it fixes every record: there is one such graph for a program and a lemma list
pub graph_unique : (p : Program) (ls : List Lemma) (g h : Graph) → Faithful p ls g → Faithful p ls h → g ≡ h
graph_unique = Rattle.abstraction.proofs.Unique.faithful_unique

-- what Judge leaves: a verdict the records of that graph with its counts, and a finding the steps of a walk to its node; refusal 7 where too many are reachable
pub verdict-left : (ws lemmas gl pl : List ℕ) → let j = judge ws lemmas gl pl in Demand2Of ws lemmas j.answer gl j.graph pl j.path
verdict-left = Rattle.judge.proofs.Promised.judge-demand2

-- the count of edges is the number of EDGE words that name a successor, in the words that a verdict leaves
pub edges_in_words : (p : Program) → WellFormed p → (ls : List Lemma) (g : Graph) (n e : ℕ) (before after : List ℕ) → Drawn p ls g n e before after → naming (take graph_words after) ≡ e
edges_in_words = Rattle.judge.proofs.Counted.edges-counted

-- demand 3: Judge's verdict safe says that the program is safe, whatever the lemma list
pub verdict-safe : (ws lemmas gl pl : List ℕ) (n e : ℕ) → (judge ws lemmas gl pl).answer ≡ Ok (IsSafe n e) → SafeOf (read ws)
verdict-safe ws lemmas gl pl n e h = Rattle.judge.proofs.Promised.judge-safe ws lemmas gl pl h

-- the view over a list that Judge has filled, with its counts, says what the graph says
pub view_of_graph : (p : Program) → WellFormed p → (ls : List Lemma) (g : Graph) (l₀ : List ℕ) (k j : ℕ) → graph p ls ≡ Done g → k < count g → j < length p.actions
    → viewed (graph_list (length p.actions) (graph p ls) l₀) (count g) (length p.actions) k j ≡ edge_viewed (edge (length p.actions) g k j)
view_of_graph p ok ls g l₀ k j e h l = Rattle.view.proofs.Graphs.search_viewed (answer (start p ls)) (Rattle.judge.proofs.Walks.next p ls) (length p.actions) g l₀ k j e ok.actions.few h l

-- lines that begin with SAFE say that the logic in the bytes is a safe program; and there are such bytes
pub safe_lines : (b : List ℕ) → Begins (text "SAFE") (lines_of b) → SafeShow b
safe_lines = Rattle.report.proofs.SafeLine.show-safe

pub fade_lines : lines_of (bytes_of (fade ++ fade_lemmas)) ≡ text "SAFE nodes 1 edges 2\n"
fade_lines = Rattle.worked.proofs.Line.fade-line

-- the words in a show's bytes are those whose bytes they are, and the other way
pub words_in_bytes : (ws : List ℕ) → Below 4294967296 ws → words_in (bytes_of ws) ≡ ws
words_in_bytes = Rattle.show.proofs.Bytes.words_in_bytes

pub bytes_of_show : (b : List ℕ) → length b % 4 ≡ 0 → Below 256 b → bytes_of (words_in b) ≡ b
bytes_of_show = Rattle.show.proofs.Bytes.bytes_of_show

-- demand 3 from a file's bytes
pub show-safe : (b wl gl pl : List ℕ) (a : Answered) (n e : ℕ) → (show b wl gl pl).answer ≡ Ok a → a.judged ≡ Ok (IsSafe n e) → SafeShow b
show-safe b wl gl pl a n e is at = Rattle.show.proofs.Safe.show-safe b gl pl a n e at wl is

-- a stream taken for whole was read or written whole, whatever the calls answered: none failed but with a passing error, few of these, and a read came to the end; one still going has had few answers
pub whole_stream : (way : Way) (room n : ℕ) (answers : List (Result ℕ ℤ)) → streamed way room (Going 0 0) answers ≡ Whole n → WholeOf way room n answers
whole_stream = Rattle.streams.proofs.Whole.whole_stream

pub ends_soon : (way : Way) (room done tries : ℕ) (answers : List (Result ℕ ℤ)) → streamed way room (Going 0 0) answers ≡ Going done tries → length answers ≤ room + most_tries
ends_soon = Rattle.streams.proofs.Whole.ends_soon
