-- What the answers were where a stream is whole, and that no stream goes on for ever. Assumes nothing.
--
-- after-moved, after-failed — a step by its tests
-- closer — an answer that leaves a stream going moved a byte or used up a try
-- within — a stream that is whole fits its room
-- whole_stream — the law of whole streams: no failed call among the answers but passing ones, few of these, and a good end
-- ends_soon — a stream that is still going has had no more answers than bytes and tries
use mathlib.Core.Path.{◌≡◌, refl, sym, ap, ◌∙◌}
use mathlib.Core.Bool.{Bool, true, false}
use mathlib.Core.List.{List, [], ◌∷◌}
use mathlib.Core.Logic.{inl, inr}
use Prim.Native.Nat.{ℕ, suc, ◌+◌, ◌≤◌, ◌<◌}
use native.Mathlib.Omega.{arith}
use lib.Dec.{T, eqb, ltb}
use lib.ListN.{length}
use borrow.Author.Tests.{ltb-true, ltb-false, eqb-true, eqb-false}
use Rattle.streams.specs.Streams.{most_tries, passing, at_nothing, after_moved, after_failed, next, streamed, sum_of, passed, Sound, EndsWell, WholeOf}
use Rattle.streams.specs.declared.Way.{Way}
use Rattle.streams.specs.declared.Way.TheVariants.{Read, Write}
use Rattle.std.specs.Prelude.{ℤ, Result, Ok, Err}
use Rattle.streams.specs.declared.Progress.{Progress}
use Rattle.streams.specs.declared.Progress.TheVariants.{Going, Whole, Broken}

by_cases : {X : Type 0} (b : Bool) → (b ≡ true → X) → (b ≡ false → X) → X
by_cases true f g = f refl
by_cases false f g = g refl

holds : {b : Bool} → b ≡ true → T b
holds e = rw e tt

passes : (b : Bool) → T b → b ≡ true
passes true t = refl
passes false t = absurd t

not_going : {X : Type 0} (way : Way) (done : ℕ) {d t : ℕ} → Going d t ≡ at_nothing way done → X
not_going Read done e = cc
not_going Write done e = cc

is-done : (way : Way) {n done : ℕ} → Whole n ≡ at_nothing way done → n ≡ done
is-done Read e = cc
is-done Write e = cc

standing : {X : Type 0} (p : Progress) → ((d t : ℕ) → p ≡ Going d t → X) → ((n : ℕ) → p ≡ Whole n → X) → (p ≡ Broken → X) → X
standing (Going d t) f g h = f d t refl
standing (Whole n) f g h = g n refl
standing Broken f g h = h refl

module _ (way : Way) (room : ℕ) where
  stays-broken : (answers : List (Result ℕ ℤ)) → streamed way room Broken answers ≡ Broken
  unfolding streamed next
  stays-broken [] = refl
  stays-broken (answer ∷ answers) = stays-broken answers

  nothing-behind : (m n : ℕ) (answers : List (Result ℕ ℤ)) → streamed way room (Whole m) answers ≡ Whole n → (answers ≡ []) × (m ≡ n)
  unfolding streamed next
  nothing-behind m n [] e = (refl, cc)
  nothing-behind m n (answer ∷ answers) e = cc (stays-broken answers)

  not-again : {X : Type 0} {d t : ℕ} (m : ℕ) (answers : List (Result ℕ ℤ)) → streamed way room (Whole m) answers ≡ Going d t → X
  unfolding streamed next
  not-again m [] e = cc
  not-again m (answer ∷ answers) e = cc (stays-broken answers)

  -- A step by its tests.
  pub after-failed : {X : Type 0} (done tries : ℕ) (error : ℤ) (p : Progress) → after_failed done tries error ≡ p
      → (T (passing error) → tries < most_tries → p ≡ Going done (suc tries) → X) → (p ≡ Broken → X) → X
  unfolding after_failed
  after-failed done tries error p e going broken =
      by_cases (passing error)
      (λ is. by_cases (ltb tries most_tries)
      (λ less. going (holds is) (ltb-true tries most_tries less) (sym e ∙ rw (is, less)))
      (λ all. broken (sym e ∙ rw (is, all))))
      (λ not. broken (sym e ∙ rw not))

  pub after-moved : {X : Type 0} (done tries n : ℕ) (p : Progress) → after_moved way room done tries n ≡ p
      → (done + n ≡ room → p ≡ Whole room → X) → (n ≡ 0 → p ≡ at_nothing way done → X)
      → (0 < n → done + n < room → p ≡ Going (done + n) tries → X) → (p ≡ Broken → X) → X
  unfolding after_moved
  after-moved done tries n p e full none going broken =
      by_cases (ltb room (done + n))
      (λ past. broken (sym e ∙ rw past))
      (λ fits. by_cases (eqb (done + n) room)
      (λ is. full (eqb-true (done + n) room is) (sym e ∙ rw (fits, is)))
      (λ less. by_cases (eqb n 0)
      (λ zero. none (eqb-true n 0 zero) (sym e ∙ rw (fits, less, zero)))
      (λ some.
      let room-left : done + n ≤ room = ltb-false room (done + n) fits in
      let not_full : done + n ≡ room → ⊥ = eqb-false (done + n) room less in
      let not_none : n ≡ 0 → ⊥ = eqb-false n 0 some in
      going (omega arith) (omega arith) (sym e ∙ rw (fits, less, some)))))

module _ (room n : ℕ) where
  full-ends : (way : Way) (answers : List (Result ℕ ℤ)) → n ≡ room → EndsWell way room n answers
  full-ends Read answers e = inl e
  full-ends Write answers e = e

  further : (way : Way) (answer : Result ℕ ℤ) (answers : List (Result ℕ ℤ)) → EndsWell way room n answers → EndsWell way room n (answer ∷ answers)
  further Read answer answers (inl e) = inl e
  further Read answer answers (inr (front, e)) = inr (answer ∷ front, ap (λ (l : List (Result ℕ ℤ)). answer ∷ l) e)
  further Write answer answers e = e

  at-nothing : (way : Way) (done k : ℕ) (answers : List (Result ℕ ℤ)) → k ≡ 0 → streamed way room (at_nothing way done) answers ≡ Whole n
      → (answers ≡ []) × (done ≡ n) × EndsWell way room n (Ok k ∷ answers)
  at-nothing Read done k answers z e =
      let b = nothing-behind Read room done n answers e in
      (b.0, b.1, inr ([], rw (z, b.0)))
  at-nothing Write done k answers z e = cc (stays-broken Write room answers)

record From (way : Way) (room done tries n : ℕ) (answers : List (Result ℕ ℤ)) : Type 0 where
  sound : Sound answers
  few : tries + passed answers ≤ most_tries
  sum : n ≡ done + sum_of answers
  ends : EndsWell way room n answers

nothing-more : (answers : List (Result ℕ ℤ)) → answers ≡ [] → Sound answers × (passed answers ≡ 0) × (sum_of answers ≡ 0)
unfolding Sound passed sum_of
nothing-more answers e = rw e (tt, refl, refl)

module _ (way : Way) (room : ℕ) where
  from : (done tries n : ℕ) (answers : List (Result ℕ ℤ)) → tries ≤ most_tries → streamed way room (Going done tries) answers ≡ Whole n → From way room done tries n answers
  unfolding streamed next sum_of passed Sound
  from done tries n [] h e = cc
  from done tries n (Err error ∷ answers) h e =
      after-failed way room done tries error _ refl
      (λ pass less is.
      let r = from done (suc tries) n answers less (rw is at e) in
      record { sound = (pass, r.sound); few = rw (passes (passing error) pass) (omega (arith, r.few)); sum = r.sum; ends = further room n way (Err error) answers r.ends })
      (λ is. cc (stays-broken way room answers))
  from done tries n (Ok k ∷ answers) h e =
      after-moved way room done tries k _ refl
      (λ full is.
      let b = nothing-behind way room room n answers (rw is at e) in
      let m = nothing-more answers b.0 in
      record { sound = m.0; few = omega (arith, m.1); sum = omega (arith, m.2, b.1); ends = full-ends room n way (Ok k ∷ answers) (sym b.1) })
      (λ none is.
      let b = at-nothing room n way done k answers none (rw is at e) in
      let m = nothing-more answers b.0 in
      record { sound = m.0; few = omega (arith, m.1); sum = omega (arith, m.2, b.1); ends = b.2 })
      (λ some less is.
      let r = from (done + k) tries n answers h (rw is at e) in
      record { sound = r.sound; few = r.few; sum = omega (arith, r.sum); ends = further room n way (Ok k) answers r.ends })
      (λ is. cc (stays-broken way room answers))

  -- Where a stream is whole, no call among its answers failed, but for at most 500 that were told to come again; its bytes are all those that were
  -- moved; and its end is a full room or, for a read, an answer of no byte.
  pub whole_stream : (n : ℕ) (answers : List (Result ℕ ℤ)) → streamed way room (Going 0 0) answers ≡ Whole n → WholeOf way room n answers
  whole_stream n answers e =
      let r = from 0 0 n answers (omega arith) e in
      record { sound = r.sound; few = omega (arith, r.few); sum = omega (arith, r.sum); ends = r.ends }

  -- An answer that leaves a stream going moved a byte or used up a try, and there are so many of both.
  pub closer : (done tries done' tries' : ℕ) (answer : Result ℕ ℤ) → done ≤ room → tries ≤ most_tries → next way room (Going done tries) answer ≡ Going done' tries'
      → (done + tries < done' + tries') × (done' ≤ room) × (tries' ≤ most_tries)
  unfolding next
  closer done tries done' tries' (Err error) h g e =
      after-failed way room done tries error _ e
      (λ pass less is. let d : done' ≡ done = cc in let t : tries' ≡ suc tries = cc in (omega arith, omega arith, omega arith))
      (λ is. cc)
  closer done tries done' tries' (Ok k) h g e =
      after-moved way room done tries k _ e
      (λ full is. cc)
      (λ none is. not_going way done is)
      (λ some less is. let d : done' ≡ done + k = cc in let t : tries' ≡ tries = cc in (omega arith, omega arith, omega arith))
      (λ is. cc)

  -- A stream that is whole fits its room.
  pub within : (done tries n : ℕ) (answer : Result ℕ ℤ) → done ≤ room → next way room (Going done tries) answer ≡ Whole n → n ≤ room
  unfolding next
  within done tries n (Err error) h e =
      after-failed way room done tries error _ e (λ pass less is. cc) (λ is. cc)
  within done tries n (Ok k) h e =
      after-moved way room done tries k _ e
      (λ full is. let z : n ≡ room = cc in omega arith)
      (λ none is. let z : n ≡ done = is-done way is in omega arith)
      (λ some less is. cc)
      (λ is. cc)

  so_far : (done tries done' tries' : ℕ) (answers : List (Result ℕ ℤ)) → done ≤ room → tries ≤ most_tries → streamed way room (Going done tries) answers ≡ Going done' tries'
      → (length answers + (done + tries) ≤ done' + tries') × (done' ≤ room) × (tries' ≤ most_tries)
  unfolding streamed
  so_far done tries done' tries' [] h g e =
      let d : done' ≡ done = cc in let t : tries' ≡ tries = cc in (omega arith, omega arith, omega arith)
  so_far done tries done' tries' (answer ∷ answers) h g e =
      standing (next way room (Going done tries) answer)
      (λ done₁ tries₁ is.
      let c = closer done tries done₁ tries₁ answer h g is in
      let r = so_far done₁ tries₁ done' tries' answers c.1 c.2 (rw is at e) in
      (omega (arith, c.0, r.0), r.1, r.2))
      (λ n is. not-again way room n answers (rw is at e))
      (λ is. cc (stays-broken way room answers))

  -- A stream that is still going has had no more answers than bytes and tries: it ends after 500 answers more than it has room.
  pub ends_soon : (done tries : ℕ) (answers : List (Result ℕ ℤ)) → streamed way room (Going 0 0) answers ≡ Going done tries → length answers ≤ room + most_tries
  ends_soon done tries answers e = let s = so_far 0 0 done tries answers (omega arith) (omega arith) e in omega (arith, s.0, s.1, s.2)
