use mathlib.Core.Path.{◌≡◌, refl}
use Prim.Native.Nat.{ℕ}
use Rattle.std.specs.Prelude.{Result, Ok, Err, MatchResult}
use Rattle.std.proofs.lemmas.Result.{err_from_is_err_and}
use Rattle.words.specs.declared.Refusal.{Refusal}
use Rattle.lemmas.specs.LemmaGrammar.{as_lemma}
use Rattle.lemmas.specs.Sources.{the_program}
use Rattle.lemmas.proofs.ListLaws.{list-refused, list-more, list-whole}
use Rattle.lemmas.proofs.list.Goals as goal

-- what was read, by what it is with the refusal of a lemma in place of its own
kept : (r : Result (ℕ × ℕ) Refusal) (x : ℕ × ℕ) {Q : Refusal → Type 0} → ((e : Refusal) → Q e → ⊥) → MatchResult r (λ y. ◌≡◌ {A = Result (ℕ × ℕ) Refusal} (Ok x) (Ok y)) Q → r ≡ Ok x
kept (Ok y) x never h = cc h
kept (Err e) x never h = absurd (never e h)

changed : (r : Result (ℕ × ℕ) Refusal) (why : Refusal) → MatchResult r (λ y. ◌≡◌ {A = Result (ℕ × ℕ) Refusal} (Err why) (Ok y)) (λ e. why ≡ as_lemma e)
    → (e : Refusal) × (r ≡ Err e) × (why ≡ as_lemma e)
changed (Ok y) why h = cc h
changed (Err e) why h = (e, refl, h)

pub returns-in_err-count : goal.returns-in_err-count
returns-in_err-count c =
    let p = err_from_is_err_and c.from_residual.result c.from_residual.ensures.1 in
    let (e, is, why) = changed c.read_lemmas.result c.in_err-count.field-0.0 c.in_err-count.ensures.cases in
    let read = rw is at c.read_lemmas.ensures in
    rw (p.1, p.2, why) (list-refused (the_program c.args.loaded.now.words.now) c.args.loaded.now.held.accepted.good c.args.lemmas.now c.args.begins.now _ e read)

pub returns-then-end-lemmas : goal.returns-then-end-lemmas
returns-then-end-lemmas c =
    let read = rw (kept c.read_lemmas.result (c.in_ok-count.count, c.in_ok-count.end) (λ e q. q) c.in_ok-count.ensures.cases) at c.read_lemmas.ensures in
    rw c.as_lemma.ensures
    (list-more (the_program c.args.loaded.now.words.now) c.args.loaded.now.held.accepted.good c.args.lemmas.now c.args.begins.now _ c.in_ok-count.count c.in_ok-count.end read c.if-end-lemmas.true)

pub returns : goal.returns
returns c =
    let read = rw (kept c.read_lemmas.result (c.in_ok-count.count, c.in_ok-count.end) (λ e q. q) c.in_ok-count.ensures.cases) at c.read_lemmas.ensures in
    list-whole (the_program c.args.loaded.now.words.now) c.args.loaded.now.held.accepted.good c.args.lemmas.now c.args.begins.now _ c.in_ok-count.count c.in_ok-count.end read c.if-end-lemmas.false
