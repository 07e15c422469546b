-- Request 4: the arithmetic of the rack, on numbers of sixteen bits, which are naturals below 65,536.
--
-- in16                         — sixteen bits hold a number, in two's complement
-- cut                          — the lowest sixteen bits of a whole number
-- wrapped_sum, wrapped_product — the lowest sixteen bits of a sum; of a product
-- wrapped_dot                  — coefficients times held variables, each product added to the sum so far
-- wrapped_value                — what a row gives at held variables, read as two's complement
use Rattle.std.specs.Prelude.{ℕ, ◌+◌, ◌-◌, ◌*◌, ◌%◌, ◌^◌, Bool, List, [], ◌∷◌, ℤ, pos, negsuc}
use Rattle.words.specs.Words.{signed}
use Rattle.rows.specs.declared.Row.{Row}
use Rattle.rows.specs.Rows.{between}

-- z is from -2^15 to 2^15 - 1.
abbrev pub in16 : ℤ → Bool
in16 z = between (negsuc 32767) (pos 32767) z

-- A number is cut to sixteen bits; negsuc n is -(n + 1).
abbrev pub cut : ℤ → ℕ
cut (pos n) = n % 2 ^ 16
cut (negsuc n) = 2 ^ 16 - 1 - n % 2 ^ 16

-- Sums and products wrap.
abbrev pub wrapped_sum : ℕ → ℕ → ℕ
wrapped_sum a b = (a + b) % 2 ^ 16

abbrev pub wrapped_product : ℕ → ℕ → ℕ
wrapped_product a b = a * b % 2 ^ 16

-- Coefficients, each cut, times variables, up to the end of the shorter list.
unfoldable pub wrapped_dot : ℕ → List ℤ → List ℕ → ℕ
wrapped_dot n [] held = n
wrapped_dot n (c ∷ cs) [] = n
wrapped_dot n (c ∷ cs) (x ∷ held) = wrapped_dot (wrapped_sum n (wrapped_product (cut c) x)) cs held

-- Plus the constant, cut as well.
abbrev pub wrapped_value : Row → List ℕ → ℤ
wrapped_value r held = signed 16 (wrapped_sum (wrapped_dot 0 r.coef held) (cut r.constant))
