-- A lemma at an index of a list, and the row of its goal. Only contracts of functions within the project cite these.
--
-- lemma_or, the_lemma — the lemma that was read, that begins at an index; `no_lemma` where there is none
-- IsLemma             — a lemma begins there
-- end_row             — the row of goal 3 or 4
-- goal_row            — the row of a goal, from the arrays of an image
-- refuted             — the negated goal: of goal 2 the row itself
-- against             — that row afterwards; none of goal 0
use Rattle.std.specs.Prelude.{Option, Some, None, ◌≡◌, Bool, true, false, cond, List, ℕ, eqb, leb, pos, negsuc, neg_ℤ, get_or, set, drop, replicate}
use Rattle.rows.specs.declared.Row.{Row}
use Rattle.rows.specs.declared.Range.{Range}
use Rattle.rows.specs.Rows.{negated, zero_range}
use Rattle.rows.specs.Bounds.{no_row}
use Rattle.grammar.specs.Reading.{Read, got, refused}
use Rattle.grammar.specs.Programs.{Program}
use Rattle.sums.specs.Sums.{afterwards}
use Rattle.lemmas.specs.Lemmas.{Lemma}
use Rattle.lemmas.specs.LemmaGrammar.{lemma}
use Rattle.ask.specs.Calls.{no_lemma}

abbrev pub lemma_or : Read Lemma → Lemma
lemma_or (got l ws i) = l
lemma_or (refused r) = no_lemma

abbrev pub the_lemma : Program → List ℕ → ℕ → Lemma
the_lemma p ls at = lemma_or (lemma p true (drop at ls) at)

pub record IsLemma (p : Program) (ls : List ℕ) (at : ℕ) : Type 0 where
  pub rest : List ℕ
  pub next : ℕ
  pub is : lemma p true (drop at ls) at ≡ got (the_lemma p ls at) rest next

abbrev pub end_row : Range → Bool → ℕ → Row
end_row g true v = record { coef = set (replicate 8 (pos 0)) v (pos 1); constant = neg_ℤ g.low }
end_row g false v = record { coef = set (replicate 8 (pos 0)) v (negsuc 0); constant = g.high }

abbrev pub goal_row : List Range → List Row → ℕ → ℕ → Row
goal_row gs ps goal i = cond (leb goal 2) (get_or ps i no_row) (end_row (get_or gs i zero_range) (eqb goal 3) i)

abbrev pub refuted : ℕ → Row → Row
refuted goal r = cond (eqb goal 2) r (negated r)

abbrev pub against : List Range → List Row → List Row → ℕ → ℕ → Option Row
against gs ps new goal i = cond (eqb goal 0) None (Some (afterwards new (refuted goal (goal_row gs ps goal i))))
