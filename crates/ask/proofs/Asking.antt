-- Ask, from what is read: the program, the list of lemmas, and the lemma of the number.
use mathlib.Core.Path.{◌≡◌, refl, sym, ap, ◌∙◌}
use mathlib.Core.Bool.{Bool, true, false, cond}
use mathlib.Core.List.{List, [], ◌∷◌, ◌++◌, append-nil}
use Prim.Native.Nat.{ℕ, zero, suc, ◌+◌, ◌≤◌, ◌<◌}
use native.Mathlib.Omega.{arith}
use native.Mathlib.Nat.{not-suc-le-zero, le_of_suc-le-suc}
use lib.IntN.{ℤ, pos}
use lib.Signed.{lt_z}
use lib.ListN.{length, get_or, drop}
use lib.Seq.{sets}
use borrow.Author.Tests.{lt-leb}
use Rattle.words.specs.declared.Refusal.{Refusal}
use Rattle.std.specs.Prelude.{Some, None, Result, Ok}
use Rattle.rows.specs.Rows.{exact, in64}
use Rattle.grammar.specs.Reading.{Read, got, refused}
use Rattle.grammar.specs.Programs.{Program}
use Rattle.grammar.specs.Encoding.{concat}
use Rattle.grammar.specs.WellFormed.{Each, Few, WellFormed}
use Rattle.grammar.proofs.ProgramLaws.{accepted as program-accepted}
use Rattle.programs.specs.Calls.{read}
use Rattle.programs.specs.Images.{loaded}
use Rattle.programs.specs.declared.Image.{Image}
use Rattle.programs.specs.Places.{places}
use Rattle.programs.proofs.Places.{item-at, stored_in, length-places}
use Rattle.lemmas.specs.Lemmas.{Lemma, largest_of}
use Rattle.lemmas.specs.LemmaGrammar.{lemma, read_lemmas, encode_lemma, LemmaOk}
use Rattle.lemmas.specs.Sources.{the_program, program_of, Held, ListedAs}
use Rattle.lemmas.proofs.LemmaLaws.{lemma-codec, lemmas-accepted}
use Rattle.lemmas.proofs.Sound.{accepted-true}
use Rattle.ask.specs.Calls.{no_lemma, weighed, ask, TrueIn}
use Rattle.ask.specs.Weighing.{lemma_or, the_lemma, IsLemma}
use Rattle.ask.specs.declared.Asked.{Asked}
use Rattle.ask.specs.declared.Asked.TheVariants.{Accepted}

-- ---- what Ask promises of an answer
abbrev pub Answers : List ℕ → List ℕ → ℕ → Result Asked Refusal → Type 0
Answers ws lemmas k r = (r ≡ ask ws lemmas k) × (r ≡ Ok Accepted → TrueIn (read ws) lemmas k)

-- ---- the program
module _ (ws : List ℕ) where
  -- a program that was read, with its image
  pub record Program-read (image : Image) : Type 0 where
    pub rest : List ℕ
    pub index : ℕ
    pub is : read ws ≡ got (the_program ws) rest index
    pub held : Held ws image

  pub program-read : {image : Image} → Ok image ≡ loaded (read ws) → Program-read image
  program-read {image} h = go (read ws) refl h
    where
      go : (m : Read Program) → read ws ≡ m → Ok image ≡ loaded m → Program-read image
      go (got p us i) q e =
          let same : the_program ws ≡ p = ap program_of q in
          record {
            rest = us;
            index = i;
            is = q ∙ ap (λ (y : Program). got y us i) (sym same);
            held = record { accepted = rw same (program-accepted ws p us i q); same = rw same (cc e) };
          }
      go (refused s) q e = cc e

-- ---- an accepted lemma's largest value is below 0
by_tests : (k : ℕ) (z : ℤ) (b c : Bool) → lt_z z (pos 0) ≡ c → weighed k (cond b (Some z) None) ≡ Ok Accepted → lt_z z (pos 0) ≡ true
by_tests k z true true t e = t
by_tests k z true false t e = cc (rw t at e)
by_tests k z false c t e = cc e

weighed-accepted : (k : ℕ) (z : ℤ) → weighed k (exact z) ≡ Ok Accepted → lt_z z (pos 0) ≡ true
weighed-accepted k z e = by_tests k z (in64 z) (lt_z z (pos 0)) refl e

each-lemma : (p : Program) (ls : List Lemma) (k : ℕ) → Each (LemmaOk p) ls → k < length ls → LemmaOk p (get_or ls k no_lemma)
each-lemma p [] k good h = absurd (not-suc-le-zero h)
each-lemma p (l ∷ ls) zero good h = good.0
each-lemma p (l ∷ ls) (suc k) good h = each-lemma p ls k good.1 (le_of_suc-le-suc h)

-- ---- the list, over a program that was read
module _ (ws : List ℕ) (p : Program) {us : List ℕ} {i : ℕ} (q : read ws ≡ got p us i) (ok : WellFormed p) (lemmas ns begins : List ℕ) (k : ℕ) where
  pub record Lemmas-read (n : ℕ) : Type 0 where
    pub list : List Lemma
    pub rest : List ℕ
    pub index : ℕ
    pub is : read_lemmas p lemmas ≡ got list rest index
    pub counted : n ≡ length list
    pub begin : begins ≡ sets ns 0 (places encode_lemma 0 list)

  pub lemmas-read : {n : ℕ} → ListedAs ns (read_lemmas p lemmas) (Ok n) begins → Lemmas-read n
  lemmas-read {n} e = go (read_lemmas p lemmas) refl e
    where
      go : (m : Read (List Lemma)) → read_lemmas p lemmas ≡ m → ListedAs ns m (Ok n) begins → Lemmas-read n
      go (got ls vs j) t f = record { list = ls; rest = vs; index = j; is = t; counted = cc f.0; begin = f.1 }
      go (refused s) t f = cc f

  module _ {n : ℕ} (l : Lemmas-read n) where
    pub good : Few 512 (LemmaOk p) l.list
    good = (lemmas-accepted p ok lemmas l.list l.rest l.index l.is).good

    module _ (wide : 512 ≤ length ns) (h : k < n) where
      abbrev place : ℕ
      place = get_or begins k 0

      known : k < length l.list
      known = omega (arith, l.counted)

      pub place-few : k < 512
      place-few = omega (arith, known, good.few)

      place_is : place ≡ get_or (places encode_lemma 0 l.list) k 0
      place_is =
          let n = length-places encode_lemma 0 l.list in
          ap (λ (ns : List ℕ). get_or ns k 0) l.begin ∙ stored_in ns (places encode_lemma 0 l.list) k 0 (omega (arith, known)) (omega (arith, good.few))

      pub record Stands : Type 0 where
        pub after : List ℕ
        pub next : ℕ
        pub read_here : lemma p true (drop place lemmas) place ≡ got (get_or l.list k no_lemma) after next

      stands : Stands
      stands =
          let words : lemmas ≡ concat encode_lemma l.list ++ [] = (lemmas-accepted p ok lemmas l.list l.rest l.index l.is).words ∙ sym (append-nil (concat encode_lemma l.list)) in
          let t = item-at (lemma-codec p ok) no_lemma lemmas [] refl 0 l.list k words good.each known in
          record { after = t.after; next = get_or (places encode_lemma 0 l.list) k 0 + length (encode_lemma (get_or l.list k no_lemma)); read_here = rw place_is t.read }

      pub lemma-is : the_lemma p lemmas place ≡ get_or l.list k no_lemma
      lemma-is = ap lemma_or stands.read_here

      pub is-lemma : IsLemma p lemmas place
      is-lemma = record { rest = stands.after; next = stands.next; is = stands.read_here ∙ ap (λ (m : Lemma). got m stands.after stands.next) (sym lemma-is) }

      pub answered : {r : Result Asked Refusal} → r ≡ weighed k (exact (largest_of p (the_lemma p lemmas place))) → Answers ws lemmas k r
      answered {r} a =
          let b : r ≡ weighed k (exact (largest_of p (get_or l.list k no_lemma))) = rw lemma-is at a in (
            b ∙ rw (q, l.is, lt-leb (length l.list) k known) refl,
            λ c. rw (q, l.is) (accepted-true p ok (get_or l.list k no_lemma) (each-lemma p l.list k good.each known) (weighed-accepted k (largest_of p (get_or l.list k no_lemma)) (sym b ∙ c))),
          )
