-- `sixteen::products` meets its contract. The invariant: the rest of the row, added to the sum so far, is the whole.
use Rattle.std.proofs.Common.{◌≡◌, length, drop}
use Rattle.sixteen.specs.Sixteen.{wrapped_dot}
use Rattle.sixteen.proofs.products.Given as goal

abbrev pub invariant-loop-c : goal.invariant-loop-c
invariant-loop-c l = wrapped_dot l.sum (drop (length l.yielded) l.fn.coef) (drop (length l.yielded) l.fn.held) ≡ wrapped_dot 0 l.fn.coef l.fn.held
