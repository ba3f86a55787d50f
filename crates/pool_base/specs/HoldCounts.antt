-- How often places are held, and the stack of those that nobody holds.
use Rattle.std.specs.Prelude.{◌≡◌, ℕ, ◌<◌, ◌==◌, if◌then◌else◌, List, length, slice_index, nat_lt, count_by}

-- how often each place is held, and how many places were ever taken, which are the first ones
pub record Places : Type 0 where
  pub counts : List ℕ
  pub taken : ℕ

-- how many places nobody holds
abbrev pub free_count : List ℕ → ℕ
free_count counts = count_by (λ count. count == 0) counts

-- how many places are held
abbrev pub held_count : List ℕ → ℕ
held_count counts = count_by (λ count. nat_lt 0 count) counts

-- these are the numbers of the free places, each once
pub record IsStack (counts free : List ℕ) : Type 0 where
  pub inside : (k : ℕ) → k < length free → slice_index free k < length counts
  pub once : (n : ℕ) → n < length counts → count_by (λ m. m == n) free ≡ (if slice_index counts n == 0 then 1 else 0)
  pub many : length free ≡ free_count counts
