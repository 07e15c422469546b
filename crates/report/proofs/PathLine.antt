-- Lines that end with a PATH line: no walk in the graph from node 0 to a node with a finding has fewer steps than the line has actions.
use mathlib.Core.Path.{◌≡◌, refl, ◌∙◌}
use mathlib.Core.Bool.{Bool, true, false, cond}
use mathlib.Core.List.{List, [], ◌∷◌, ◌++◌}
use Prim.Native.Nat.{ℕ, zero, suc, ◌+◌, ◌/◌, ◌%◌, ◌<◌}
use native.Mathlib.Omega.{arith}
use borrow.Author.Tests.{ltb-true, ne_eqb}
use lib.Dec.{eqb, ltb}
use lib.ListN.{length}
use Rattle.words.specs.Refusals.{number, value}
use Rattle.grammar.specs.Reading.{Read, refused, got}
use Rattle.grammar.specs.Programs.{Program}
use Rattle.programs.specs.Calls.{read}
use Rattle.lemmas.specs.Lemmas.{Lemma}
use Rattle.lemmas.specs.LemmaGrammar.{read_lemmas}
use Rattle.search.specs.Search.{Graph}
use Rattle.records.specs.Records.{graph_words}
use Rattle.abstraction.specs.Faithful.{Faithful}
use Rattle.verdict.specs.Verdicts.{path_words, steps_in}
use Rattle.judge.specs.Calls.{judge}
use Rattle.judge.specs.Worth.{OfList, OfRead}
use Rattle.judge.specs.Shortest.{Least, SafeBefore, Shortest, ShortestOf}
use Rattle.judge.specs.declared.Judged.{Judged}
use Rattle.judge.specs.declared.Judged.TheVariants.{MayForbid, MayRunOff}
use Rattle.judge.specs.declared.Judged.TheVariants.{Safe as IsSafe}
use Rattle.judge.proofs.Shortest.{judge-shortest}
use Rattle.show.specs.declared.Unread.TheVariants.{TooLong, OddBytes}
use Rattle.words.specs.declared.Refusal.{Refusal}
use Rattle.std.specs.Prelude.{Result, Ok, Err}
use Rattle.show.specs.Show.{most_bytes, words_in, logic_in, lemmas_in, of_words, of_bytes}
use Rattle.lines.specs.Text.{text, spelled, decimal, field, line}
use Rattle.report.specs.Report.{zeros, safe_line, forbid_line, run_off_line, refused_line, step_text, path_line, answer_lines, shown_lines, lines_of, Ends, ShortestShow}

-- ---- the actions of a PATH line, counted: the spaces behind the last H, and one more; 0 where there is no H
more : ℕ → ℕ
more zero = zero
more (suc c) = suc (suc c)

tally : ℕ → List ℕ → ℕ
tally c [] = c
tally c (x ∷ xs) = tally (cond (eqb x 72) 1 (cond (eqb x 32) (more c) c)) xs

tally_append : (c : ℕ) (xs ys : List ℕ) → tally c (xs ++ ys) ≡ tally (tally c xs) ys
unfolding tally
tally_append c [] ys = refl
tally_append c (x ∷ xs) ys = tally_append (cond (eqb x 72) 1 (cond (eqb x 32) (more c) c)) xs ys

digit : (c d : ℕ) → d < 10 → tally c ((48 + d) ∷ []) ≡ c
unfolding tally
digit c d h = rw (ne_eqb (48 + d) 72 (λ z. omega arith), ne_eqb (48 + d) 32 (λ z. omega arith)) refl

tally-spelled : (k n c : ℕ) → tally c (spelled k n) ≡ c
unfolding spelled tally
tally-spelled zero n c = refl
tally-spelled (suc k) n c = go (ltb n 10) refl (tally-spelled k (n / 10) c)
  where
    go : (b : Bool) → ltb n 10 ≡ b → tally c (spelled k (n / 10)) ≡ c → tally c (cond b ((48 + n) ∷ []) (spelled k (n / 10) ++ ((48 + n % 10) ∷ []))) ≡ c
    go true e ih = digit c n (ltb-true n 10 e)
    go false e ih = tally_append c (spelled k (n / 10)) ((48 + n % 10) ∷ []) ∙ rw ih (digit c (n % 10) (omega arith))

tally-field : (c : ℕ) (t : List ℕ) (n : ℕ) → tally c (field t n) ≡ tally c t
unfolding decimal
tally-field c t n = tally_append c t (decimal n) ∙ tally-spelled 20 n (tally c t)

tally-steps : (c : ℕ) (js : List ℕ) → tally (suc c) (step_text js) ≡ suc c + length js
unfolding step_text tally more
tally-steps c [] = omega arith
tally-steps c (j ∷ js) = tally_append (suc c) (field (text " ") j) (step_text js) ∙ rw (tally-field (suc c) (text " ") j) (tally-steps (suc c) js ∙ omega arith)

tally-path : (c : ℕ) (js : List ℕ) → tally c (path_line js) ≡ suc (length js)
unfolding path_line tally
tally-path c js = tally_append c (text "PATH" ++ step_text js) (text "\n") ∙ tally_append c (text "PATH") (step_text js) ∙ tally-steps 0 js ∙ omega arith

tally-ends : (js l : List ℕ) → Ends (path_line js) l → tally 0 l ≡ suc (length js)
tally-ends js l (front, e) = rw e (tally_append 0 front (path_line js) ∙ tally-path (tally 0 front) js)

tally-line : (t : List ℕ) (n : ℕ) (u : List ℕ) (m : ℕ) → tally 0 (line t n u m) ≡ tally (tally 0 t) u
unfolding line tally more
tally-line t n u m =
    tally_append 0 (field t n ++ field u m) (text "\n") ∙ tally_append 0 (field t n) (field u m) ∙ rw (tally-field 0 t n) (tally-field (tally 0 t) u m)

-- ---- lines without a PATH line
no_path : {P : Type 0} (l js : List ℕ) → tally 0 l ≡ 0 → Ends (path_line js) l → P
no_path l js e h = absurd (omega (arith, e, tally-ends js l h))

pub no_lines : {P : Type 0} (js : List ℕ) → Ends (path_line js) [] → P
unfolding tally
no_lines js = no_path [] js refl

-- ---- lines with one
module _ (P Q : Program → List Lemma → Type 0) (on : (p : Program) (ls : List Lemma) → P p ls → Q p ls) where
  of-list : (p : Program) (m : Read (List Lemma)) → OfList (P p) m → OfList (Q p) m
  of-list p (refused _) h = elim h [ ]
  of-list p (got ls us i) h = on p ls h

  of_words_lem : (m : Read Program) (lemmas : List ℕ) → OfRead P m lemmas → OfRead Q m lemmas
  of_words_lem (refused _) lemmas h = elim h [ ]
  of_words_lem (got p us i) lemmas h = of-list p (read_lemmas p lemmas) h

module _ (ws lemmas gl pl js : List ℕ) where
  abbrev LeastIn : ℕ → Program → List Lemma → Type 0
  LeastIn n p ls = (g : Graph) × Faithful p ls g × Least p ls g n × SafeBefore p n

  ended : (front : List ℕ) → OfRead (Shortest gl pl) (read ws) lemmas → Ends (path_line js) (front ++ path_line (steps_in pl)) → OfRead (LeastIn (length js)) (read ws) lemmas
  ended front s h =
      let same : length (steps_in pl) ≡ length js = omega (arith, tally-ends js (front ++ path_line (steps_in pl)) h, tally_append 0 front (path_line (steps_in pl)), tally-path (tally 0 front) (steps_in pl)) in
      rw (← same) (of_words_lem (Shortest gl pl) (LeastIn (length (steps_in pl))) (λ p ls q. (q.0, q.1, q.2, q.4)) (read ws) lemmas s)

  answer-shortest : (a : Result Judged Refusal) → ShortestOf ws lemmas a gl pl → Ends (path_line js) (answer_lines a pl) → OfRead (LeastIn (length js)) (read ws) lemmas
  unfolding answer_lines tally more
  answer-shortest (Ok (IsSafe n e)) s h = no_path (safe_line n e) js (tally-line (text "SAFE nodes ") n (text " edges ") e) h
  answer-shortest (Ok (MayForbid k b n e)) s h = ended (forbid_line k b) s h
  answer-shortest (Ok (MayRunOff k j v high n e)) s h = ended (run_off_line k j v high) s h
  answer-shortest (Err r) s h = no_path (refused_line r) js (tally-line (text "REFUSED ") (number r) (text " AT ") (value r)) h

pub path-line : (b js : List ℕ) → Ends (path_line js) (lines_of b) → ShortestShow b (length js)
unfolding lines_of shown_lines of_bytes tally more
path-line b js = go (ltb most_bytes (length b)) (eqb (length b % 4) 0)
  where
    go : (long whole : Bool) → let s = cond long (record { answer = Err TooLong; graph = zeros graph_words; path = zeros path_words })
        (cond whole (of_words (words_in b) (zeros graph_words) (zeros path_words)) (record { answer = Err OddBytes; graph = zeros graph_words; path = zeros path_words }))
        in Ends (path_line js) (shown_lines s.answer s.path) → ShortestShow b (length js)
    go true whole h = no_path (text "TOO LONG\n") js refl h
    go false true h =
        let ws = words_in b in
        let j = judge (logic_in ws) (lemmas_in ws) (zeros graph_words) (zeros path_words) in
        answer-shortest (logic_in ws) (lemmas_in ws) j.graph j.path js j.answer (judge-shortest (logic_in ws) (lemmas_in ws) (zeros graph_words) (zeros path_words)) h
    go false false h = no_path (text "ODD BYTES\n") js refl h
