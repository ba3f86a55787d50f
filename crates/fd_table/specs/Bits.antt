-- The bits of a word.
use Rattle.std.specs.Prelude.{◌≡◌, ℕ, ◌<◌, ◌≤◌, true, false}
use Rattle.lwc_base.specs.Capabilities.{has_bit}

-- this is the lowest bit from one on that a word has
pub record IsLowestBit (word from n : ℕ) : Type 0 where
  pub after : from ≤ n
  pub below : n < 64
  pub has : has_bit word n ≡ true
  pub lowest : (m : ℕ) → from ≤ m → m < n → has_bit word m ≡ false
