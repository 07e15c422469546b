use mathlib.Core.Path.{◌≡◌, refl, ap, ◌∙◌}
use mathlib.Core.Bool.{Bool, true}
use mathlib.Core.List.{List}
use Prim.Native.Nat.{ℕ, ◌+◌}
use lib.ListN.{drop}
use Rattle.words.specs.Words.{LEMMA, SETS}
use native.Mathlib.Omega.{arith}
use Rattle.std.specs.Prelude.{Result}
use Rattle.std.proofs.lemmas.Result.{err_from_is_err_and}
use Rattle.words.specs.declared.Refusal.{Refusal}
use Rattle.grammar.specs.Reading.{one, times}
use Rattle.reader.specs.Results.{next_of}
use Rattle.lemmas.specs.LemmaGrammar.{multiplier}
use Rattle.lemmas.specs.Sources.{the_program}
use Rattle.lemmas.proofs.HeadLaws.{head-known, premises-known, rows-known}
use Rattle.lemmas.proofs.ListLaws.{head-stopped, premises-stopped, premises-within, mults-refused, lemma-taken}
use Rattle.lemmas.proofs.read_lemma.Goals as goal

-- what was read, by what the test and the number are
word_is : (kind : ℕ) (room : Bool) (ws : List ℕ) (i : ℕ) {a b : Bool} {x : Result ℕ Refusal} → a ≡ b → x ≡ next_of (one kind (λ w. true) (λ w. room) (λ w. a) ws i)
    → x ≡ next_of (one kind (λ w. true) (λ w. room) (λ w. b) ws i)
word_is kind room ws i q e = e ∙ ap (λ (b : Bool). next_of (one kind (λ w. true) (λ w. room) (λ w. b) ws i)) q

mults-are : (ws : List ℕ) (i : ℕ) {m n : ℕ} {x : Result ℕ Refusal} → m ≡ n → x ≡ next_of (times m multiplier ws i) → x ≡ next_of (times n multiplier ws i)
mults-are ws i q e = e ∙ ap (λ (n : ℕ). next_of (times n multiplier ws i)) q

pub returns-in_err-read_word : goal.returns-in_err-read_word
returns-in_err-read_word c =
    let head = word_is LEMMA c.args.room (drop c.args.at c.args.lemmas.now) c.args.at (c.head_allowed-allowed.ensures ∙ head-known c.args.loaded.now.words.now c.args.loaded.now.held _ 0 c.word_at-w.ensures refl c.source-source.ensures c.goal-goal.ensures c.requires.1) c.in_err-read_word.ensures in
    let p = err_from_is_err_and c.from_residual.result c.from_residual.ensures.1 in
    rw (p.1, p.2) (head-stopped (the_program c.args.loaded.now.words.now) c.args.room c.args.lemmas.now c.args.at head)

pub returns-in_err-read_word-2 : goal.returns-in_err-read_word-2
returns-in_err-read_word-2 c =
    let head = word_is LEMMA c.args.room (drop c.args.at c.args.lemmas.now) c.args.at (c.head_allowed-allowed.ensures ∙ head-known c.args.loaded.now.words.now c.args.loaded.now.held _ 0 c.word_at-w.ensures refl c.source-source.ensures c.goal-goal.ensures c.requires.1) c.in_ok-read_word.ensures in
    let premises = word_is SETS true (drop (c.args.at + 1) c.args.lemmas.now) (c.args.at + 1) (c.premises_allowed-fine.ensures ∙ premises-known c.args.loaded.now.words.now c.args.loaded.now.held _ _ c.word_at-w.ensures c.word_at-s.ensures c.source-source.ensures c.goal-goal.ensures c.requires.1) c.in_err-read_word-2.ensures in
    let p = err_from_is_err_and c.from_residual-in_err-read_word-2.result c.from_residual-in_err-read_word-2.ensures.1 in
    rw (p.1, p.2) (premises-stopped (the_program c.args.loaded.now.words.now) c.args.room c.args.lemmas.now c.args.at head premises)

pub read_mults-requires : goal.read_mults-requires
read_mults-requires c =
    let head = word_is LEMMA c.args.room (drop c.args.at c.args.lemmas.now) c.args.at (c.head_allowed-allowed.ensures ∙ head-known c.args.loaded.now.words.now c.args.loaded.now.held _ 0 c.word_at-w.ensures refl c.source-source.ensures c.goal-goal.ensures c.requires.1) c.in_ok-read_word.ensures in
    let premises = word_is SETS true (drop (c.args.at + 1) c.args.lemmas.now) (c.args.at + 1) (c.premises_allowed-fine.ensures ∙ premises-known c.args.loaded.now.words.now c.args.loaded.now.held _ _ c.word_at-w.ensures c.word_at-s.ensures c.source-source.ensures c.goal-goal.ensures c.requires.1) c.in_ok-read_word-2.ensures in
    omega (arith, premises-within (the_program c.args.loaded.now.words.now) c.args.room c.args.lemmas.now c.args.at head premises)

pub returns-in_err-next : goal.returns-in_err-next
returns-in_err-next c =
    let head = word_is LEMMA c.args.room (drop c.args.at c.args.lemmas.now) c.args.at (c.head_allowed-allowed.ensures ∙ head-known c.args.loaded.now.words.now c.args.loaded.now.held _ 0 c.word_at-w.ensures refl c.source-source.ensures c.goal-goal.ensures c.requires.1) c.in_ok-read_word.ensures in
    let premises = word_is SETS true (drop (c.args.at + 1) c.args.lemmas.now) (c.args.at + 1) (c.premises_allowed-fine.ensures ∙ premises-known c.args.loaded.now.words.now c.args.loaded.now.held _ _ c.word_at-w.ensures c.word_at-s.ensures c.source-source.ensures c.goal-goal.ensures c.requires.1) c.in_ok-read_word-2.ensures in
    let mults = mults-are (drop (c.args.at + 2) c.args.lemmas.now) (c.args.at + 2) (c.count_rows-n.ensures ∙ rows-known c.args.loaded.now.words.now c.args.loaded.now.held _ _ c.word_at-w.ensures c.word_at-s.ensures c.source-source.ensures c.goal-goal.ensures c.requires.1) c.in_err-next.ensures in
    let p = err_from_is_err_and c.from_residual-in_err-next.result c.from_residual-in_err-next.ensures.1 in
    rw (p.1, p.2) (mults-refused (the_program c.args.loaded.now.words.now) c.args.room c.args.lemmas.now c.args.at head premises mults)

pub returns : goal.returns
returns c =
    let head = word_is LEMMA c.args.room (drop c.args.at c.args.lemmas.now) c.args.at (c.head_allowed-allowed.ensures ∙ head-known c.args.loaded.now.words.now c.args.loaded.now.held _ 0 c.word_at-w.ensures refl c.source-source.ensures c.goal-goal.ensures c.requires.1) c.in_ok-read_word.ensures in
    let premises = word_is SETS true (drop (c.args.at + 1) c.args.lemmas.now) (c.args.at + 1) (c.premises_allowed-fine.ensures ∙ premises-known c.args.loaded.now.words.now c.args.loaded.now.held _ _ c.word_at-w.ensures c.word_at-s.ensures c.source-source.ensures c.goal-goal.ensures c.requires.1) c.in_ok-read_word-2.ensures in
    let mults = mults-are (drop (c.args.at + 2) c.args.lemmas.now) (c.args.at + 2) (c.count_rows-n.ensures ∙ rows-known c.args.loaded.now.words.now c.args.loaded.now.held _ _ c.word_at-w.ensures c.word_at-s.ensures c.source-source.ensures c.goal-goal.ensures c.requires.1) c.in_ok-next.ensures in
    rw (c.of.ensures, c.index.ensures, c.goal-goal.ensures, c.source-source.ensures, c.word_at-s.ensures, c.word_at-w.ensures) (lemma-taken (the_program c.args.loaded.now.words.now) c.args.room c.args.lemmas.now c.args.at head premises mults)
