-- MULT words one after the other, a lemma put together of its parts, and the loop over a list of lemmas.
use mathlib.Core.Path.{◌≡◌, refl, sym, ap, ◌∙◌}
use mathlib.Core.Bool.{Bool, true, false}
use mathlib.Core.List.{List, [], ◌∷◌}
use Prim.Native.Nat.{ℕ, suc, ◌+◌, ◌-◌, ◌≤◌, ◌<◌}
use native.Mathlib.Omega.{arith}
use native.Mathlib.Numerals.{add-one}
use lib.Dec.{ltb}
use lib.ListN.{length, get_or, set, drop, drop_of_length-le}
use lib.Seq.{sets, drop-cons}
use Rattle.words.specs.Words.{bits, payload, literals_of, LEMMA, SETS, MULT}
use Rattle.words.specs.declared.Refusal.{Refusal}
use Rattle.words.specs.declared.Refusal.TheVariants.{Word}
use Rattle.grammar.specs.Reading.{Read, got, refused, one, always, pure, after, begins, times, many}
use Rattle.grammar.specs.Programs.{Program}
use Rattle.grammar.specs.WellFormed.{WellFormed}
use Rattle.grammar.proofs.ReadingLaws.{one_out, many-out}
use Rattle.reader.specs.Results.{outcome, next_of}
use Rattle.reader.proofs.Laws.{head-refused, head-taken, err-out, ok-out}
use Rattle.reader.proofs.RowsLoop.{left_is, left-within}
use Rattle.programs.specs.Places.{places}
use Rattle.std.specs.Prelude.{Result, Ok, Err}
use Rattle.programs.proofs.ManyLaws.{Loop, stopped, ended, turned, within-limit}
use Rattle.lemmas.specs.Lemmas.{Lemma, rows_of}
use Rattle.lemmas.specs.LemmaGrammar.{head_allowed, premises_allowed, multiplier, lemma_of, lemma, list, as_lemma, read_lemmas, encode_lemma}
use Rattle.lemmas.specs.Sources.{lemma_read, BeginsAs, ListedAs}
use Rattle.lemmas.specs.declared.LemmaRead.{LemmaRead}
use Rattle.lemmas.proofs.LemmaLaws.{mult_allowed, head_goal, lemma-codec, lemma-full}

-- ---- MULT words: k are read, and the words behind them are left
pub record Mults (ws : List ℕ) (at n k : ℕ) : Type 0 where
  pub few : k ≤ n
  pub here : at + k ≤ length ws
  pub same : next_of (times (n - k) multiplier (drop (at + k) ws) (at + k)) ≡ next_of (times n multiplier (drop at ws) at)

next_more : (m : ℕ) (x : Read (List ℕ)) → next_of (after x (λ xs. pure (m ∷ xs))) ≡ next_of x
next_more m (got xs us j) = refl
next_more m (refused r) = refl

module _ (ws : List ℕ) (at n : ℕ) where
  module _ {k : ℕ} (t : Mults ws at n k) where
    abbrev readMult : Result ℕ Refusal
    readMult = next_of (one MULT (λ x. true) (λ x. true) (λ x. mult_allowed (get_or ws (at + k) 0)) (drop (at + k) ws) (at + k))

    pub mults-stopped : k < n → {r : Refusal} → Err r ≡ readMult → Err r ≡ next_of (times n multiplier (drop at ws) at)
    unfolding times
    mults-stopped h {r} e =
        let one_more : n - k ≡ suc (n - suc k) = omega arith in
        let q = head-refused MULT always always mult_allowed ws (at + k) (at + k) r e in
        rw (one_more, q) at t.same

    pub mults-next : k < n → {j : ℕ} → Ok j ≡ readMult → (at + k < length ws) × Mults ws at n (k + 1)
    unfolding times
    mults-next h {j} e =
        let one_more : n - k ≡ suc (n - suc k) = omega arith in
        let next : at + (k + 1) ≡ at + k + 1 = omega arith in
        let (l, place, q) = head-taken MULT always always mult_allowed ws (at + k) (at + k) j e in
        let s = rw (one_more, q) at t.same in
        (l, record { few = omega arith; here = omega arith; same = rw (next, add-one k) (sym (next_more (payload (get_or ws (at + k) 0)) (times (n - suc k) multiplier (drop (at + k + 1) ws) (at + k + 1))) ∙ s) })

    pub mults-ended : n ≤ k → Ok (at + n) ≡ next_of (times n multiplier (drop at ws) at)
    unfolding times
    mults-ended h =
        let none : n - k ≡ 0 = omega arith in
        let all : k ≡ n = omega (arith, t.few) in
        rw (none, all) at t.same

-- ---- a lemma at an index, by what its words give one after the other
module _ (p : Program) (room : Bool) (ls : List ℕ) (at : ℕ) where
  abbrev first : ℕ
  first = get_or ls at 0

  abbrev second : ℕ
  second = get_or ls (at + 1) 0

  abbrev premised : ℕ → Bool
  premised s = premises_allowed p (bits 27 20 first) (payload s)

  abbrev answer : Result (LemmaRead × ℕ) Refusal
  answer = lemma_read (lemma p room (drop at ls) at)

  abbrev read_head : Result ℕ Refusal
  read_head = next_of (one LEMMA (λ x. true) (λ x. room) (λ x. head_allowed p first) (drop at ls) at)

  pub head-stopped : {r : Refusal} → Err r ≡ read_head → Err r ≡ answer
  unfolding lemma
  head-stopped {r} e = rw (head-refused LEMMA always (λ x. room) (head_allowed p) ls at at r e) refl

  module _ {i : ℕ} (h : Ok i ≡ read_head) where
    head-got : one LEMMA always (λ x. room) (head_allowed p) (drop at ls) at ≡ got first (drop (at + 1) ls) (at + 1)
    head-got = (head-taken LEMMA always (λ x. room) (head_allowed p) ls at at i h).2

    abbrev readPremises : Result ℕ Refusal
    readPremises = next_of (one SETS (λ x. true) (λ x. true) (λ x. premised second) (drop (at + 1) ls) (at + 1))

    pub premises-stopped : {r : Refusal} → Err r ≡ readPremises → Err r ≡ answer
    unfolding lemma
    premises-stopped {r} e = rw (head-got, head-refused SETS always always premised ls (at + 1) (at + 1) r e) refl

    module _ {j : ℕ} (k : Ok j ≡ readPremises) where
      pub premises-within : at + 1 < length ls
      premises-within = (head-taken SETS always always premised ls (at + 1) (at + 1) j k).0

      two : at + 1 + 1 ≡ at + 2
      two = omega arith

      premises-got : one SETS always always premised (drop (at + 1) ls) (at + 1) ≡ got second (drop (at + 2) ls) (at + 2)
      premises-got = rw two at (head-taken SETS always always premised ls (at + 1) (at + 1) j k).2

      abbrev readMults : Read (List ℕ)
      readMults = times (length (rows_of p (lemma_of first second []))) multiplier (drop (at + 2) ls) (at + 2)

      pub mults-refused : {r : Refusal} → Err r ≡ next_of readMults → Err r ≡ answer
      unfolding lemma
      mults-refused e = rw (head-got, premises-got, err-out (λ a i. i) readMults e) refl

      abbrev read_as : ℕ → Result (LemmaRead × ℕ) Refusal
      read_as i = Ok (record { source = bits 27 20 first; goal = bits 19 16 first; index = bits 7 0 first; premises = literals_of second }, i)

      pub lemma-taken : {n : ℕ} → Ok n ≡ next_of readMults → read_as n ≡ answer
      unfolding lemma
      lemma-taken {n} e =
          let (ms, us, i, q, s) = ok-out (λ a i. i) readMults e in
          let o = one_out LEMMA always (λ x. room) (head_allowed p) (drop at ls) at first (drop (at + 1) ls) (at + 1) head-got in
          rw (head-got, premises-got, q, head_goal p first o.allowed_is) (ap read_as s)

-- ---- the loop over the lemmas: where each begins is stored
-- what is read from index i on, put behind the k lemmas that are stored
abbrev pub begins_from : List ℕ → ℕ → ℕ → Read (List Lemma) → Result (List ℕ × (ℕ × ℕ)) Refusal
begins_from ns k i m = outcome (λ ls j. (sets ns k (places encode_lemma i ls), (k + length ls, j))) m

lemma-stored : (ns : List ℕ) (k i j : ℕ) (l : Lemma) (m : Read (List Lemma)) → j ≡ i + length (encode_lemma l)
    → begins_from ns k i (after m (λ rest. pure (l ∷ rest))) ≡ begins_from (set ns k i) (k + 1) j m
unfolding places
lemma-stored ns k i j l (got rest us n) e = let more : k + suc (length rest) ≡ suc k + length rest = omega arith in rw (add-one k, more, e) refl
lemma-stored ns k i j l (refused x) e = refl

module _ (p : Program) (ok : WellFormed p) (ws ns₀ : List ℕ) where
  abbrev LemmasLoop : List ℕ → ℕ → ℕ → Type 0
  LemmasLoop ns i k = Loop LEMMA (lemma p) 512 begins_from ws 0 ns₀ ns i k

  abbrev lemmasRead : Read (List Lemma)
  lemmasRead = many LEMMA (lemma p) 512 (drop 0 ws) 0

  module _ {ns : List ℕ} {i k : ℕ} (t : LemmasLoop ns i k) where
    pub lemmas-ended : begins LEMMA (drop i ws) ≡ false → BeginsAs ns₀ lemmasRead (Ok (k, i)) ns
    unfolding places
    lemmas-ended h =
        let e = ended LEMMA (lemma p) 512 begins_from ws 0 ns₀ t h in
        let (ls, us, j, q, s) = ok-out (λ ls j. (sets ns₀ 0 (places encode_lemma 0 ls), (0 + length ls, j))) lemmasRead e in
        let counted : k ≡ length ls = omega (arith, ap (λ (b : List ℕ × (ℕ × ℕ)). b.1.0) s) in
        let next : i ≡ j = ap (λ (b : List ℕ × (ℕ × ℕ)). b.1.1) s in
        rw q (λ t. Ok (counted t, next t), ap (λ (b : List ℕ × (ℕ × ℕ)). b.0) s)

    module _ (h : begins LEMMA (drop i ws) ≡ true) where
      pub lemmas-stopped : {r : Refusal} (l : List ℕ) → Err r ≡ lemma_read (lemma p (ltb k 512) (drop i ws) i) → BeginsAs ns₀ lemmasRead (Err r) l
      lemmas-stopped {r} l e =
          let s = stopped LEMMA (lemma p) 512 begins_from ws 0 ns₀ t h (err-out _ _ e) in
          rw (err-out (λ ls j. (sets ns₀ 0 (places encode_lemma 0 ls), (0 + length ls, j))) lemmasRead s) refl

      pub lemma-turned : {x : LemmaRead} {j : ℕ} → Ok (x, j) ≡ lemma_read (lemma p (ltb k 512) (drop i ws) i) → (k < 512) × LemmasLoop (set ns k i) j (k + 1)
      lemma-turned {x} {j} e =
          let (l, us, n, r, s) = ok-out _ _ e in
          let next : n ≡ j = ap (λ (y : LemmaRead × ℕ). y.1) (sym s) in
          let (room, item) = within-limit LEMMA (lemma p) (drop i ws) i 512 k (lemma-full p ok) (rw next at r) in
          let o = (lemma-codec p ok).out (drop i ws) i l us j item in
          let rest = left_is ws t.here o in (
            room,
            turned LEMMA (lemma p) 512 begins_from ws 0 ns₀ t h room (rw rest at item) (left-within ws t.here o) (λ m. lemma-stored ns k i j l m o.place),
          )

-- ---- a list: its lemmas, and nothing after them
module _ (p : Program) (ok : WellFormed p) (ws ns l : List ℕ) where
  abbrev whole : Read (List Lemma)
  whole = many LEMMA (lemma p) 512 (drop 0 ws) 0

  pub list-refused : (r : Refusal) → BeginsAs ns whole (Err r) l → ListedAs ns (read_lemmas p ws) (Err (as_lemma r)) l
  unfolding list
  list-refused r e = go whole refl e
    where
      go : (m : Read (List Lemma)) → whole ≡ m → BeginsAs ns m (Err r) l → ListedAs ns (read_lemmas p ws) (Err (as_lemma r)) l
      go (got ls us j) q f = cc f.0
      go (refused x) q f = rw q (cc f)

  module _ (n i : ℕ) (e : BeginsAs ns whole (Ok (n, i)) l) where
    -- the lemmas that were read, up to index i
    abbrev ReadTo : List Lemma → Type 0
    ReadTo ls = (whole ≡ got ls (drop i ws) i) × (l ≡ sets ns 0 (places encode_lemma 0 ls)) × (n ≡ length ls)

    read-to : (ls : List Lemma) × ReadTo ls
    read-to = go whole refl e
      where
        go : (m : Read (List Lemma)) → whole ≡ m → BeginsAs ns m (Ok (n, i)) l → (ls : List Lemma) × ReadTo ls
        go (got ls us j) q f =
            let both : ◌≡◌ {A = ℕ × ℕ} (n, i) (length ls, j) = cc f.0 in
            let counted : n ≡ length ls = ap (λ (b : ℕ × ℕ). b.0) both in
            let next : j ≡ i = ap (λ (b : ℕ × ℕ). b.1) (sym both) in
            let t = many-out LEMMA (lemma p) (lemma-codec p ok) (lemma-full p ok) 512 ws 0 ls us i (rw next at q) in
            let rest = left_is ws {i = 0} (omega arith) t in
            (ls, (rw (rest, next) at q, f.1, counted))
        go (refused x) q f = cc f

    pub list-more : i < length ws → ListedAs ns (read_lemmas p ws) (Err (as_lemma (Word i))) l
    unfolding list
    list-more m = rw (read-to.1.0, drop-cons ws i 0 m) refl

    pub list-whole : length ws ≤ i → ListedAs ns (read_lemmas p ws) (Ok n) l
    unfolding list
    list-whole m = rw (read-to.1.0, drop_of_length-le ws {i = i} m) (ap Ok read-to.1.2, read-to.1.1)
