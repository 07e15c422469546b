-- The nodes that contradict a combination, and those at which an action keeps to its ends.
use mathlib.Core.Path.{◌≡◌, refl, sym, ◌∙◌}
use mathlib.Core.Bool.{Bool, true, false}
use mathlib.Core.Logic.{inl, inr, ⊎_elim}
use mathlib.Core.List.{List}
use Prim.Native.Nat.{ℕ, ◌+◌, ◌-◌, ◌*◌, ◌^◌, ◌<◌}
use native.Mathlib.Nat.{lt_of_le_of_lt}
use native.Mathlib.Omega.{arith}
use native.Mathlib.Decide.{dec_lt}
use lib.ListN.{get_or}
use lib.Count.{count_trailing_zeros}
use lib.Bits.{bit_and, bit_or, and_le_l}
use borrow.Author.Count.{below_more}
use Rattle.words.specs.Words.{no_literals}
use Rattle.words.specs.declared.Literals.{Literals}
use Rattle.sets.specs.Sets.{Member, swap, clashes}
use Rattle.sets.proofs.Bits.{bit_lt, zero_or_one, bit-and, bit-or, trailing_at}
use Rattle.sets.proofs.Laws.{swap-low, swap-high, clashes-is}
use Rattle.gather.specs.Gathering.{first_missing}
use Rattle.gather.specs.declared.Entry.{Entry}
use Rattle.gather.proofs.Shown.{missing-is}
use Rattle.block.specs.Blocks.{Columns, Meets, after, Block, none_of, digit, Gone}
use Rattle.block.proofs.Meeting.{lowest, member_below}
use Rattle.block.proofs.Filling.{placed}
use Rattle.suspects.specs.Suspects.{Any, Small, Opposed, AllOpposed, Shown, Keeps, AllKeep}

-- ---- any of a set's literals
pub record Asking (cols : List ℕ) (p r s : ℕ) : Type 0 where
  pub fits : s < 2 ^ 32
  pub part : (c : ℕ) → Member c s → Member c p
  pub any : Any cols p r

pub asking_next : {cols : List ℕ} {p r s : ℕ} → Asking cols p r s → (s ≡ 0 → ⊥) → Asking cols p (bit_or r (get_or cols (count_trailing_zeros 32 s) 0)) (bit_and s (s - 1))
asking_next {cols} {p} {r} {s} f n =
    let t = count_trailing_zeros 32 s in
    let l = lowest 32 s f.fits n in
    let w = get_or cols t 0 in
    record {
      fits = lt_of_le_of_lt (and_le_l s (s - 1)) f.fits;
      part = λ c z. f.part c (omega (arith, bit-and c s (s - 1), bit_lt c s, z));
      any = record {
        some = λ i m. ⊎_elim (λ z. f.any.some i (omega (arith, m, z, bit-or i r w))) (λ z. (t, l, f.part t (trailing_at 32 s l), z)) (zero_or_one (bit_lt i w));
      };
    }

-- ---- a combination
pub opposed_by : (cols nodes : List ℕ) (set r : ℕ) → set < 2 ^ 28 → Small nodes → Columns nodes cols → Any cols (swap set) r → Opposed nodes set r
opposed_by cols nodes set r h small k f = record {
  each = λ i l m.
      let (c, lc, ms, mw) = f.some i m in
      let n = get_or nodes i 0 in
      let mn : Member c n = sym (k.same i c l (omega arith)) ∙ mw in
      let lc2 = member_below 28 c n (small i) mn in
      (clashes-is set n h (small i)).1 (elim (dec_lt c 14) [
        | yes lo ↦ (c, lo, inr (sym (swap-low set c h lo) ∙ ms, mn))
        | no hi ↦
            let e : 14 + (c - 14) ≡ c = omega arith in
            let lo : c - 14 < 14 = omega arith in
            (c - 14, lo, inl (sym (swap-high set (c - 14) h lo) ∙ rw e ms, rw e mn))
      ]);
}

-- ---- an action's ends
pub keeps_by : {t : List ℕ} (kept nodes : List ℕ) (es : List Entry) (asked j gone shown : ℕ) → j < 16 → Block kept nodes es t → Gone j kept nodes es gone
    → Meets t (j * 64) asked shown → Keeps kept nodes es asked j (bit_or gone shown)
keeps_by {t} kept nodes es asked j gone shown hj b g f = record {
  each = λ i l m.
      let y = after kept j (get_or nodes i 0) es in
      ⊎_elim (λ z. inr (λ s.
      let x = (missing-is asked y).1 s in
      let p = first_missing asked y in
      x.1 (sym (placed b i j p l hj s) ∙ (f i l).0 (omega (arith, m, z, bit-or i gone shown)) p x.0)))
      (λ z. inl (none (none_of y) (sym (g.same i l) ∙ z))) (zero_or_one (bit_lt i gone));
}
  where
    none : (b : Bool) → digit b ≡ 1 → b ≡ true
    none true z = refl
    none false z = absurd (omega (arith, z))

-- ---- one combination more, and one action more
pub fewer : (i r w : ℕ) → Member i (bit_and r w) → Member i r × Member i w
fewer i r w m = (omega (arith, m, bit-and i r w, bit_lt i r), omega (arith, m, bit-and i r w, bit_lt i w))

pub opposed-next : {nodes : List ℕ} {literals : List Literals} (n r w : ℕ) → AllOpposed nodes literals n r → Opposed nodes (get_or literals n no_literals).0 w
    → AllOpposed nodes literals (n + 1) (bit_and r w)
opposed-next {nodes} {literals} n r w f o = record {
  each = λ i b l h m. let (x, y) = fewer i r w m in below_more (λ (b : ℕ). clashes (get_or literals b no_literals).0 (get_or nodes i 0) ≡ true) n (λ b h. f.each i b l h x) (o.each i l y) b h;
}

pub keeps-next : {kept nodes asked : List ℕ} {es : List Entry} (a r w : ℕ) → AllKeep kept nodes es asked a r → Keeps kept nodes es (get_or asked a 0) a w
    → AllKeep kept nodes es asked (a + 1) (bit_and r w)
keeps-next {kept} {nodes} {asked} {es} a r w f k = record {
  each = λ i j l h m. let (x, y) = fewer i r w m in below_more (λ (j : ℕ). Shown (get_or asked j 0) (after kept j (get_or nodes i 0) es)) a (λ j h. f.each i j l h x) (k.each i l y) j h;
}
