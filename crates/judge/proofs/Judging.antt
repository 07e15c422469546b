-- The graph of a survey judged: what the first finding needs, and the verdict and path that it gives.
use mathlib.Core.Path.{◌≡◌, refl, ap, ◌∙◌}
use Rattle.std.specs.Prelude.{Option, None, Some}
use Rattle.std.specs.Option.{is_some}
use mathlib.Core.List.{List, [], ◌∷◌}
use Prim.Native.Nat.{ℕ, ◌≤◌}
use native.Mathlib.Omega.{arith}
use lib.ListN.{length}
use Rattle.grammar.specs.Programs.{Program}
use Rattle.programs.specs.Images.{image_of}
use Rattle.programs.specs.declared.Image.{Image}
use Rattle.lemmas.specs.Lemmas.{goal_number, Lemma}
use Rattle.gather.specs.Gathering.{place_of}
use Rattle.gather.specs.declared.Entry.{Entry}
use Rattle.gather.proofs.Shown.{place-told}
use Rattle.search.specs.Search.{Graph}
use Rattle.search.proofs.Theorem.{Whole, whole}
use Rattle.records.specs.Records.{most_nodes}
use Rattle.abstraction.specs.Abstraction.{start, answer}
use Rattle.abstraction.proofs.ClaimLaws.{applies-is}
use Rattle.abstraction.proofs.Graphs.{monomial_of, here, past-at, successor-is}
use Rattle.verdict.specs.Verdicts.{has_next}
use Rattle.verdict.specs.declared.Finding.{Finding}
use Rattle.verdict.specs.declared.cases.Case.{Case}
use Rattle.verdict.specs.Working.{Traced, asked_ends, found_of, Judging}
use Rattle.verdict.proofs.Traces.{traced}
use Rattle.survey.specs.Ready.{Ready}
use Rattle.survey.specs.declared.Surveyed.{Surveyed}
use Rattle.judge.proofs.Walks.{next}

-- ---- what is found first of some findings
pub first_none : (fs : List Finding) → None ≡ found_of fs → fs ≡ []
first_none [] h = refl
first_none (f ∷ fs) h = cc

pub first_some : (fs : List Finding) {f : Finding} → Some f ≡ found_of fs → (rest : List Finding) × (fs ≡ f ∷ rest)
first_some [] h = absurd cc
first_some (x ∷ rest) h = (rest, cc)

given-next : (s : Option ℕ) → is_some s ≡ has_next (monomial_of s)
given-next (Some s) = refl
given-next None = refl

-- ---- a survey of a program, its lemmas and their graph
module _ {p : Program} {ls : List Lemma} {g : Graph} {es : List Entry} {s : Surveyed} {l : List ℕ} (r : Ready p ls g es s l) where
  known : Whole (answer (start p ls)) (next p ls) (length p.actions) most_nodes g
  known = whole (answer (start p ls)) (next p ls) (length p.actions) most_nodes g r.is

  actions_are : s.image.actions ≡ length p.actions
  actions_are = ap (λ (y : Image). y.actions) r.same

  pub nodes-few : s.nodes ≤ most_nodes
  nodes-few = omega (arith, r.nodes_are, known.within)

  pub image-few : (s.image.actions ≤ 16) × (s.image.forbidden ≤ 8)
  image-few = (omega (arith, actions_are, r.good.actions.few), omega (arith, ap (λ (y : Image). y.forbidden) r.same, r.good.forbidden.few))

  pub traced-here : Traced (length p.actions) g
  traced-here = traced known

  pub judging : {c : Case} → c.image.now ≡ s.image → c.asked ≡ asked_ends p → c.entries.now ≡ es → c.kept.now ≡ s.kept → c.records.list.now ≡ l → c.nodes ≡ s.nodes → Judging p ls g c
  judging {c} i a e k q n =
      let image-is : c.image.now ≡ image_of p = i ∙ r.same in
      record {
        good = r.good;
        combinations = ap (λ (y : Image). y.literals) image-is;
        forbidden-count = ap (λ (y : Image). y.forbidden) image-is;
        action-count = ap (λ (y : Image). y.actions) image-is;
        ends = a;
        size = n ∙ r.nodes_are;
        listed = (r.before, q ∙ rw (c.same_actions, i, actions_are) r.listed);
        applying = λ source set goal index h past. rw (e, r.tables, k, r.masks, past-at p r.good ls r.each source set (place_of (goal_number goal) index) past (place-told h).0) (applies-is p r.good ls r.each source set goal index h);
        leading = λ source set. rw (e, r.tables, k, r.masks, successor-is p r.good ls r.each source set) (given-next (here p r.good ls r.each source set));
      }
