-- The successors of the nodes, two actions more.
use mathlib.Core.Path.{◌≡◌, ap, ◌∙◌}
use mathlib.Core.List.{List}
use Prim.Native.Nat.{ℕ, ◌+◌, ◌*◌, ◌/◌, ◌%◌, ◌^◌, ◌<◌, ◌≤◌}
use native.Mathlib.Omega.{arith}
use native.Mathlib.Decide.{ℕ_discrete}
use lib.ListN.{length, get_or, set, length-set}
use lib.Seq.{get_or-set_same, get_or-set_other}
use Rattle.gather.specs.declared.Entry.{Entry}
use Rattle.block.specs.Blocks.{table_words, after, half_of, Gone, Words, Block}
use Rattle.ready.specs.Ready.{Stored, Ready}

module _ {kept nodes : List ℕ} {es : List Entry} (h : ℕ) {scratch gone : List ℕ} (f : Ready kept nodes es h scratch gone) (l : h < 8) where
  pub ready-next : {scratch' w : List ℕ} (x y : ℕ) → Words h kept nodes es w → Stored scratch (table_words + h * 64) w 64 scratch' → Gone (2 * h) kept nodes es x → Gone (2 * h + 1) kept nodes es y
      → Ready kept nodes es (h + 1) scratch' (set (set gone (2 * h) x) (2 * h + 1) y)
  ready-next {scratch'} {w} x y ws s gx gy =
      let long = f.long in
      let wide = length-set gone (2 * h) x in
      record {
        long = length-set (set gone (2 * h) x) (2 * h + 1) y ∙ wide ∙ long;
        words = λ g i e lg li le. elim (ℕ_discrete g h) [
          | yes z ↦ rw z (ap (λ (n : ℕ). half_of n e) (s.inside i li) ∙ ws.same i e li le)
          | no z ↦ ap (λ (n : ℕ). half_of n e) (s.before (table_words + g * 64 + i) (omega (arith, z))) ∙ f.words g i e (omega (arith, z)) li le
        ];
        none = λ j lj. elim (ℕ_discrete j (2 * h + 1)) [
          | yes z ↦ rw (z, get_or-set_same (set gone (2 * h) x) (2 * h + 1) y 0 (omega arith)) gy
          | no z ↦ rw (get_or-set_other (set gone (2 * h) x) (2 * h + 1) j y 0 z) (elim (ℕ_discrete j (2 * h)) [
            | yes v ↦ rw (v, get_or-set_same gone (2 * h) x 0 (omega arith)) gx
            | no v ↦ rw (get_or-set_other gone (2 * h) j x 0 v) (f.none j (omega (arith, z, v)))
          ])
        ];
      }

-- what is written behind a table leaves the table
pub record Left (l l' : List ℕ) : Type 0 where
  pub long : length l' ≡ length l
  pub same : (k : ℕ) → k < table_words → get_or l' k 0 ≡ get_or l k 0

pub left-next : {l l' l'' w : List ℕ} {at : ℕ} → Left l l' → Stored l' at w 64 l'' → table_words ≤ at → Left l l''
left-next f s h = record { long = s.long ∙ f.long; same = λ k m. s.before k (omega arith) ∙ f.same k m }

pub table-left : {kept nodes l l' : List ℕ} {es : List Entry} → Left l l' → Block kept nodes es l → Block kept nodes es l'
table-left f b =
    let long = f.long in
    record { long = omega (arith, b.long); same = λ i k li lk. rw (f.same k lk) (b.same i k li lk) }

-- the half of a row that is the action's
pub row_of : {kept nodes scratch gone : List ℕ} {es : List Entry} → Ready kept nodes es 8 scratch gone → (j i : ℕ) → j < 16 → i < 64
    → half_of (get_or scratch (table_words + j / 2 * 64 + i) 0) (j % 2) ≡ after kept j (get_or nodes i 0) es % 2 ^ 28
row_of {kept} {nodes} {scratch} {gone} {es} f j i lj li =
    let e : 2 * (j / 2) + j % 2 ≡ j = omega arith in
    f.words (j / 2) i (j % 2) (omega arith) li (omega arith) ∙ ap (λ (j : ℕ). after kept j (get_or nodes i 0) es % 2 ^ 28) e
