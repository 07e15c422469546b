-- Abstract states and node words: the literals of a reached word are a reachable abstract state, and every one of those has its word.
use mathlib.Core.Path.{◌≡◌, refl, sym, ap, ◌∙◌}
use mathlib.Core.List.{List}
use Prim.Native.Nat.{ℕ, ◌^◌, ◌%◌}
use native.Mathlib.Omega.{arith}
use lib.ListN.{length}
use Rattle.words.specs.Words.{payload, word, SETS}
use Rattle.words.proofs.Laws.{payload-word}
use Rattle.grammar.specs.Programs.{Program}
use Rattle.grammar.specs.WellFormed.{Each, WellFormed}
use Rattle.lemmas.specs.Lemmas.{Lemma, START}
use Rattle.lemmas.specs.LemmaGrammar.{LemmaOk}
use Rattle.std.specs.Prelude.{Option, None, Some}
use Rattle.words.specs.LiteralSets.{Literal, literals_in, set_of}
use Rattle.formula.specs.Formula.{Monomial, False, And, at-start, after}
use Rattle.search.specs.Search.{To}
use Rattle.search.proofs.Reach.{Reach, first, onward}
use Rattle.search.proofs.Theorem.{to_inj, not_none}
use Rattle.abstraction.specs.Abstraction.{successor, start, answer}
use Rattle.abstraction.specs.Faithful.{ReachableIn}
use Rattle.abstraction.proofs.Literals.{set-literals, literals_mod}
use Rattle.abstraction.proofs.Graphs.{monomial_of, here, successor-is}

-- the abstract state that a word stands for, and the word of one
abbrev pub state_of : ℕ → List Literal
state_of w = literals_in 14 (payload w)

abbrev pub word_of : List Literal → ℕ
word_of m = word SETS (set_of m)

-- the words that the exploration reaches
abbrev pub ReachIn : Program → List Lemma → ℕ → Type 0
ReachIn p ls w = Reach (answer (start p ls)) (λ u j. answer (successor p ls j (state_of u))) (length p.actions) w

-- the monomial whose answer is a word is the conjunction of the word's literals
pub and-literals : (x : Monomial) (w : ℕ) → ((m : List Literal) → x ≡ And m → state_of (word_of m) ≡ m) → answer x ≡ To w → (x ≡ And (state_of w)) × (w ≡ word_of (state_of w))
and-literals False w back e = absurd (not_none (sym e))
and-literals (And m) w back e =
    let same = to_inj e in
    let r = back m refl in
    rw (← same, r) (refl, refl)

-- a set's literals are read back from their word
read_back_lem : (s : ℕ) → state_of (word_of (literals_in 14 s)) ≡ literals_in 14 s
read_back_lem s = rw (set-literals s, payload-word SETS (s % 2 ^ 28) (omega arith)) (literals_mod 14 s (omega arith))

module _ (p : Program) (ok : WellFormed p) (ls : List Lemma) (good : Each (LemmaOk p) ls) where
  -- and so are those of a successor
  pub successor-back : (source set : ℕ) (m : List Literal) → successor p ls source (literals_in 14 set) ≡ And m → state_of (word_of m) ≡ m
  successor-back source set m e = go (here p ok ls good source set) (sym (successor-is p ok ls good source set) ∙ e)
    where
      go : (s : Option ℕ) → monomial_of s ≡ And m → state_of (word_of m) ≡ m
      go (Some s) q = let r : literals_in 14 s ≡ m = cc in rw (← r) (read_back_lem s)
      go None q = let z : ◌≡◌ {A = ℕ} 0 1 = cc in absurd (omega arith)

  pub start_back : (m : List Literal) → start p ls ≡ And m → state_of (word_of m) ≡ m
  unfolding literals_in
  start_back m e = successor-back START 0 m e

  pub has_word : {m : List Literal} → ReachableIn p ls m → ReachIn p ls (word_of m) × (state_of (word_of m) ≡ m)
  has_word {m} (at-start e) = (first (ap answer e), start_back m e)
  has_word {m = n} (after {m = m} {i = i} r h e) =
      let (reach, back) = has_word r in
      (onward {v = word_of n} reach h (rw back (ap answer e)), successor-back i (payload (word_of m)) n (rw back e))

  pub has-literals : {w : ℕ} → ReachIn p ls w → ReachableIn p ls (state_of w) × (w ≡ word_of (state_of w))
  has-literals {w} (first e) = let (s, q) = and-literals (start p ls) w start_back e in (at-start s, q)
  has-literals {w} (onward {w = u} {j = j} r h e) =
      let (s, q) = and-literals (successor p ls j (state_of u)) w (successor-back j (payload u)) e in
      (after (has-literals r).0 h s, q)
