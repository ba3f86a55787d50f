-- The values of decimal digits.
use Rattle.std.proofs.Common.{◌≡◌, ◌≤◌, ◌<◌, ℕ, ◌+◌, ◌^◌, List, take, arith}
use Rattle.std.proofs.Math.Nat.{pow-le-pow_right}
use Rattle.lwc_text.specs.Numbers.{decimal_value}

-- the value of the first i digits, and that it has no more digits than these
pub record IsValueOf (n i : ℕ) (digits : List ℕ) : Type 0 where
  pub value : n ≡ decimal_value (take i digits)
  pub bound : n + 1 ≤ 10 ^ i

-- a number of fewer than nine digits is small
pub small : (value i : ℕ) → value + 1 ≤ 10 ^ i → i < 9 → value < 100000000
small value i bound few = omega (arith, bound, pow-le-pow_right {n = 10} (omega arith) {i = i} {j = 8} (omega arith))
