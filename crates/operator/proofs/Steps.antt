-- What one answer more does to the bytes of a reader and of a writer.
use Rattle.std.proofs.Common.{◌≡◌, ℕ, ◌+◌, ◌-◌, ◌<◌, ◌≤◌, List, ◌++◌, Result, Ok, Err, None, Some, length, take, drop, take_all, sym, ap, ◌∙◌, subst, le_refl, arith}
use Rattle.std.proofs.lemmas.Slice.{take-put_mid_below}
use Rattle.std.proofs.lemmas.List.{take_rest}
use Rattle.std.proofs.KnownBytes.{Consumes-trans, Consumes-kept, Appends-trans}
use borrow.Rule.Slice.PartMut.{put_mid, post_of}
use lib.Seq.{take-add, drop_at, length-take-le, take-append-le}
use lib.IntN.{ℤ}
use Rattle.std.specs.declared.option.Option.{Option}
use Rattle.std.specs.declared.io.Error.{Error}
use Rattle.std.specs.Io.{ReadsAtMost}
use Rattle.std.specs.Io.KnownBytes.{Consumes, Appends, Keeps, IsAtEnd, ReadConsumes, WriteAppends}
use Rattle.streams.specs.Streams.{next, after_failed}
use Rattle.streams.specs.declared.Way.{Way}
use Rattle.streams.specs.declared.Way.TheVariants.{Read, Write}
use Rattle.streams.specs.declared.Progress.{Progress}
use Rattle.streams.specs.declared.Progress.TheVariants.{Going, Whole}
use Rattle.streams.proofs.Whole.{after-failed, after-moved}
use Rattle.operator.specs.Program.{told}

module _ (way : Way) (room done tries : ℕ) where
  -- a failed call moves nothing, and ends no stream as whole
  failed-stays : (error : ℤ) (more again : ℕ) → next way room (Going done tries) (Err error) ≡ Going more again → more ≡ done
  unfolding next
  failed-stays error more again e = after-failed way room done tries error _ e (λ pass less is. cc) (λ is. cc)

  failed-not-whole : {X : Type 0} (error : ℤ) (n : ℕ) → next way room (Going done tries) (Err error) ≡ Whole n → X
  unfolding next
  failed-not-whole error n e = after-failed way room done tries error _ e (λ pass less is. cc) (λ is. cc)

  moved-on : (k more again : ℕ) → next way room (Going done tries) (Ok k) ≡ Going more again → more ≡ done + k
  unfolding next
  moved-on k more again e =
      after-moved way room done tries k _ e
      (λ full is. cc)
      (λ none is. not-going way is)
      (λ some less is. cc)
      (λ is. cc)
    where
      not-going : (w : Way) → Going more again ≡ Rattle.streams.specs.Streams.at_nothing w done → more ≡ done + k
      not-going Read is = cc
      not-going Write is = cc

moved-all-in : (room done tries k n : ℕ) → next Read room (Going done tries) (Ok k) ≡ Whole n → (n ≡ done + k) × (n < room → k ≡ 0)
unfolding next
moved-all-in room done tries k n e =
    after-moved Read room done tries k _ e
    (λ full is. let z : n ≡ room = cc in (omega arith, λ less. absurd (omega arith)))
    (λ none is. let z : n ≡ done = cc in (omega arith, λ less. none))
    (λ some less is. cc)
    (λ is. cc)

moved-all-out : (room done tries k n : ℕ) → next Write room (Going done tries) (Ok k) ≡ Whole n → done + k ≡ room
unfolding next
moved-all-out room done tries k n e =
    after-moved Write room done tries k _ e
    (λ full is. full)
    (λ none is. cc)
    (λ some less is. cc)
    (λ is. cc)

-- ---- a reader
module _ (start old new : Option (List ℕ)) (bytes buf : List ℕ) (room done tries : ℕ) (all : length bytes ≡ room) (within : done ≤ room) (same : length buf ≡ length bytes - done) where
  inside : done ≤ length bytes
  inside = omega arith

  kept : take done (put_mid done (length bytes - done) bytes buf) ≡ take done bytes
  kept = take-put_mid_below _ _ _ _ _ (le_refl _) inside

  front : (n : ℕ) → n ≤ length buf → take (done + n) (put_mid done (length bytes - done) bytes buf) ≡ take done bytes ++ take n buf
  front n fits =
      let now = put_mid done (length bytes - done) bytes buf in
      let after = post_of done (length bytes - done) bytes in
      take-add done n now
      ∙ ap (λ l. l ++ take n (drop done now)) kept
      ∙ ap (λ l. take done bytes ++ take n l) (drop_at (take done bytes) (buf ++ after) done (length-take-le done bytes inside))
      ∙ ap (λ l. take done bytes ++ l) (take-append-le n buf after fits)

  -- What is at the front of the room is what the reader gave.
  pub read_on : (r : Result ℕ Error) (more again : ℕ) → Consumes start old (take done bytes) → ReadsAtMost r buf → ReadConsumes old new r buf
      → next Read room (Going done tries) (told r) ≡ Going more again → Consumes start new (take more (put_mid done (length bytes - done) bytes buf))
  read_on (Ok k) more again came bound moved e =
      let m : more ≡ done + k = moved-on Read room done tries k more again e in
      let now = put_mid done (length bytes - done) bytes buf in
      subst (Consumes start new) (sym (front k bound.0) ∙ ap (λ n. take n now) (sym m)) (Consumes-trans start old new _ _ came moved.0)
  read_on (Err error) more again came bound moved e =
      let m : more ≡ done = failed-stays Read room done tries _ more again e in
      let now = put_mid done (length bytes - done) bytes buf in
      subst (Consumes start new) (sym kept ∙ ap (λ n. take n now) (sym m)) (Consumes-kept start old new _ came moved)

  pub read_out : (r : Result ℕ Error) (n : ℕ) → Consumes start old (take done bytes) → ReadsAtMost r buf → ReadConsumes old new r buf
      → next Read room (Going done tries) (told r) ≡ Whole n → Consumes start new (take n (put_mid done (length bytes - done) bytes buf)) × (n < room → IsAtEnd new)
  read_out (Ok k) n came bound moved e =
      let m = moved-all-in room done tries k n e in
      let now = put_mid done (length bytes - done) bytes buf in (
        subst (Consumes start new) (sym (front k bound.0) ∙ ap (λ x. take x now) (sym m.0)) (Consumes-trans start old new _ _ came moved.0),
        λ less. moved.1 (m.1 less) (omega (arith, same, all, m.0, less)),
      )
  read_out (Err error) n came bound moved e = failed-not-whole Read room done tries _ n e

-- ---- a writer
Appends-kept : (a b c : Option (List ℕ)) (bs : List ℕ) → Appends a b bs → Keeps b c → Appends a c bs
Appends-kept None b c bs p q = tt
Appends-kept (Some x) None c bs p q = absurd p
Appends-kept (Some x) (Some y) None bs p q = absurd q
Appends-kept (Some x) (Some y) (Some z) bs p q = q ∙ p

module _ (start old new : Option (List ℕ)) (lines : List ℕ) (done tries : ℕ) where
  joined : (k : ℕ) → Appends start old (take done lines) → Appends old new (take k (take (length lines - done) (drop done lines))) → Appends start new (take (done + k) lines)
  joined k went moved =
      subst (Appends start new) (ap (λ l. take done lines ++ take k l) (take_rest lines done) ∙ sym (take-add done k lines)) (Appends-trans start old new _ _ went moved)

  -- What the writer got is what is at the front of the lines.
  pub write_on : (r : Result ℕ Error) (more again : ℕ) → Appends start old (take done lines) → WriteAppends old new r (take (length lines - done) (drop done lines))
      → next Write (length lines) (Going done tries) (told r) ≡ Going more again → Appends start new (take more lines)
  write_on (Ok k) more again went moved e =
      let m : more ≡ done + k = moved-on Write (length lines) done tries k more again e in
      subst (λ n. Appends start new (take n lines)) (sym m) (joined k went moved)
  write_on (Err error) more again went moved e =
      let m : more ≡ done = failed-stays Write (length lines) done tries _ more again e in
      subst (λ n. Appends start new (take n lines)) (sym m) (Appends-kept start old new _ went moved)

  pub write_out : (r : Result ℕ Error) (n : ℕ) → Appends start old (take done lines) → WriteAppends old new r (take (length lines - done) (drop done lines))
      → next Write (length lines) (Going done tries) (told r) ≡ Whole n → Appends start new lines
  write_out (Ok k) n went moved e =
      let m = moved-all-out (length lines) done tries k n e in
      subst (Appends start new) (take_all (done + k) lines (omega (arith, m))) (joined k went moved)
  write_out (Err error) n went moved e = failed-not-whole Write (length lines) done tries _ n e

  pub write_broken : (r : Result ℕ Error) → Appends start old (take done lines) → WriteAppends old new r (take (length lines - done) (drop done lines))
      → (n : ℕ) × Appends start new (take n lines)
  write_broken (Ok k) went moved = (done + k, joined k went moved)
  write_broken (Err error) went moved = (done, Appends-kept start old new _ went moved)

-- ---- what the calls of a turn ensure, as one equation
pub by_told : (way : Way) (room done tries : ℕ) (r : Result ℕ Error) (a : Result ℕ ℤ) (p q : Progress) → a ≡ told r → p ≡ next way room (Going done tries) a → p ≡ q
    → next way room (Going done tries) (told r) ≡ q
by_told way room done tries r a p q of is e = ap (next way room (Going done tries)) (sym of) ∙ sym is ∙ e

pub by_answer : (way : Way) (room done tries : ℕ) (a : Result ℕ ℤ) (p q : Progress) → p ≡ next way room (Going done tries) a → p ≡ q → next way room (Going done tries) a ≡ q
by_answer way room done tries a p q is e = sym is ∙ e
