-- Laws of sixteen bits: cut is modulo 65,536, sums and products of cut numbers are those of the numbers, and a number that sixteen bits hold is read back. Assumes nothing.
use Rattle.std.proofs.Common.{◌≡◌, ℕ, ◌+◌, ◌-◌, ◌*◌, ◌/◌, ◌%◌, ◌<◌, ◌≤◌, true, List, [], ◌∷◌, map, length, get_or, drop, ℤ, pos, negsuc, ◌+ℤ◌, ◌*ℤ◌, ◌≤ℤ◌, sym, refl, ap, ◌∙◌, add-one, arith, drop_of_length-le, drop-cons}
use Rattle.integers.proofs.Int.{up, dn, var, num, ◌⊕◌, ◌⊗◌, equal, law, le_in}
use Rattle.words.specs.Words.{signed, unsigned}
use Rattle.words.proofs.Laws.{signed-unsigned}
use Rattle.rows.specs.declared.Row.{Row}
use Rattle.rows.specs.Rows.{dot, row_value}
use Rattle.rows.proofs.Laws.{between_out}
use Rattle.sixteen.specs.Sixteen.{in16, cut, wrapped_sum, wrapped_product, wrapped_dot, wrapped_value}

pub cut_below : (z : ℤ) → cut z < 65536
cut_below (pos n) = omega arith
cut_below (negsuc n) = omega arith

-- z is its lowest sixteen bits and a multiple of 65,536
cut_modulo : (z : ℤ) → (q : ℤ) × (z ≡ pos (cut z) +ℤ q *ℤ pos 65536)
unfolding up dn
cut_modulo (pos n) = (pos (n / 65536), equal (num n) (num (n % 65536) ⊕ num (n / 65536) ⊗ num 65536) (omega arith))
cut_modulo (negsuc n) = (negsuc (n / 65536), equal (var (negsuc n)) (num (65535 - n % 65536) ⊕ var (negsuc (n / 65536)) ⊗ num 65536) (omega arith))

-- and they are the only such number below 65,536
only : (n m : ℕ) (q r : ℤ) → n < 65536 → m < 65536 → pos n +ℤ q *ℤ pos 65536 ≡ pos m +ℤ r *ℤ pos 65536 → n ≡ m
only n m q r h k e = omega (arith, ap up e, ap dn e, law (num n ⊕ var q ⊗ num 65536), law (num m ⊕ var r ⊗ num 65536))

cut-is : (z : ℤ) (n : ℕ) (q : ℤ) → n < 65536 → z ≡ pos n +ℤ q *ℤ pos 65536 → cut z ≡ n
cut-is z n q h e = let (r, f) = cut_modulo z in only (cut z) n r q (cut_below z) h (sym f ∙ e)

cut_sum : (a b : ℤ) → cut (a +ℤ b) ≡ wrapped_sum (cut a) (cut b)
cut_sum a b =
    let (q, e) = cut_modulo a in
    let (r, f) = cut_modulo b in
    let n = cut a in
    let m = cut b in
    let k = (n + m) / 65536 in
    cut-is (a +ℤ b) (wrapped_sum n m) (q +ℤ r +ℤ pos k) (omega arith)
    (ap (λ (x : ℤ). x +ℤ b) e ∙ ap (λ (y : ℤ). pos n +ℤ q *ℤ pos 65536 +ℤ y) f
    ∙ equal ((num n ⊕ var q ⊗ num 65536) ⊕ (num m ⊕ var r ⊗ num 65536)) (num (wrapped_sum n m) ⊕ (var q ⊕ var r ⊕ num k) ⊗ num 65536) (omega arith))

cut_product : (a b : ℤ) → cut (a *ℤ b) ≡ wrapped_product (cut a) (cut b)
cut_product a b =
    let (q, e) = cut_modulo a in
    let (r, f) = cut_modulo b in
    let n = cut a in
    let m = cut b in
    let k = n * m / 65536 in
    let split : n * m ≡ wrapped_product n m + k * 65536 = omega arith in
    cut-is (a *ℤ b) (wrapped_product n m) (pos n *ℤ r +ℤ q *ℤ pos m +ℤ q *ℤ r *ℤ pos 65536 +ℤ pos k) (omega arith)
    (ap (λ (x : ℤ). x *ℤ b) e ∙ ap (λ (y : ℤ). (pos n +ℤ q *ℤ pos 65536) *ℤ y) f
    ∙ equal ((num n ⊕ var q ⊗ num 65536) ⊗ (num m ⊕ var r ⊗ num 65536))
    (num (wrapped_product n m) ⊕ (num n ⊗ var r ⊕ var q ⊗ num m ⊕ var q ⊗ var r ⊗ num 65536 ⊕ num k) ⊗ num 65536) (omega (arith, split)))

sum_assoc : (n p k : ℕ) → wrapped_sum (wrapped_sum n p) k ≡ wrapped_sum n (wrapped_sum p k)
sum_assoc n p k = omega arith

-- sums and products of cut numbers, along a row
dot-cut : (n : ℕ) (cs xs : List ℤ) → n < 65536 → wrapped_dot n cs (map cut xs) ≡ wrapped_sum n (cut (dot cs xs))
unfolding wrapped_dot dot
dot-cut n [] xs h = omega arith
dot-cut n (c ∷ cs) [] h = omega arith
dot-cut n (c ∷ cs) (x ∷ xs) h =
    let p = wrapped_product (cut c) (cut x) in
    let d = cut (dot cs xs) in
    let e = cut_sum (c *ℤ x) (dot cs xs) ∙ ap (λ (k : ℕ). wrapped_sum k d) (cut_product c x) in
    dot-cut (wrapped_sum n p) cs xs (omega arith) ∙ sum_assoc n p d ∙ ap (wrapped_sum n) (sym e)

-- what a row gives in sixteen bits is its exact value modulo 65,536, read as two's complement
pub wrapped_exact : (r : Row) (s : List ℤ) → wrapped_value r (map cut s) ≡ signed 16 (cut (row_value r s))
wrapped_exact r s =
    let d = dot r.coef s in
    let e : wrapped_dot 0 r.coef (map cut s) ≡ cut d = dot-cut 0 r.coef s (omega arith) ∙ omega (arith, cut_below d) in
    ap (signed 16) (ap (λ (k : ℕ). wrapped_sum k (cut r.constant)) e ∙ sym (cut_sum d r.constant))

-- a number that sixteen bits hold is read back
same_bits : (z : ℤ) → negsuc 32767 ≤ℤ z → z ≤ℤ pos 32767 → cut z ≡ unsigned 16 z
unfolding up dn
same_bits (pos n) l h = omega (arith, le_in h)
same_bits (negsuc n) l h = omega (arith, le_in l)

pub signed_cut : (z : ℤ) → in16 z ≡ true → signed 16 (cut z) ≡ z
signed_cut z e = let (l, h) = between_out (negsuc 32767) (pos 32767) z e in ap (signed 16) (same_bits z l h) ∙ signed-unsigned 16 refl z l h

pub sixteen_bits : ((z : ℤ) → (cut z < 65536) × ((q : ℤ) × (z ≡ pos (cut z) +ℤ q *ℤ pos 65536)))
    × ((a b : ℤ) → (cut (a +ℤ b) ≡ wrapped_sum (cut a) (cut b)) × (cut (a *ℤ b) ≡ wrapped_product (cut a) (cut b)))
    × ((r : Row) (s : List ℤ) → wrapped_value r (map cut s) ≡ signed 16 (cut (row_value r s))) × ((z : ℤ) → in16 z ≡ true → signed 16 (cut z) ≡ z)
sixteen_bits = (λ z. (cut_below z, cut_modulo z), λ a b. (cut_sum a b, cut_product a b), wrapped_exact, signed_cut)

-- ---- the loops
-- one product more
pub dot-next : (n : ℕ) (cs : List ℤ) (xs : List ℕ) (i : ℕ) → i < length cs → i < length xs
    → wrapped_dot n (drop i cs) (drop i xs) ≡ wrapped_dot (wrapped_sum n (wrapped_product (cut (get_or cs i (pos 0))) (get_or xs i 0))) (drop (i + 1) cs) (drop (i + 1) xs)
unfolding wrapped_dot
dot-next n cs xs i h k = rw (add-one, drop-cons cs i (pos 0) h, drop-cons xs i 0 k) refl

pub dot-end : (n : ℕ) (cs : List ℤ) (xs : List ℕ) (i : ℕ) → length cs ≤ i → wrapped_dot n (drop i cs) (drop i xs) ≡ n
unfolding wrapped_dot
dot-end n cs xs i h = rw (drop_of_length-le cs {i = i} h) refl
