-- Rows by their numbers among those that were made.
use Rattle.std.specs.Prelude.{◌≡◌, ℕ, ◌+◌, ◌<◌, ◌≤◌, ◌^◌, List, count_by, length, map, nat_lt}
use Rattle.std.specs.Prelude.{slice_index, slice_index_or}

module _ {A : Type 0} (fresh : A) where
  -- the rows of these numbers
  abbrev pub rows_of : List ℕ → List A → List A
  rows_of numbers made = map (λ n. slice_index_or made n fresh) numbers

  -- number 0 is a row that was not changed, no two rows share another number, and there is memory for all
  pub record IsKept (capacity : ℕ) (numbers : List ℕ) (made : List A) : Type 0 where
    pub first : slice_index_or made 0 fresh ≡ fresh
    pub within : (i : ℕ) → slice_index numbers i < length made
    pub apart : (i j : ℕ) → slice_index numbers i ≡ slice_index numbers j → 0 < slice_index numbers i → i ≡ j
    pub counted : length made ≡ count_by (nat_lt 0) numbers + 1
    pub room : length numbers + 1 ≤ capacity
    pub few : length numbers < 2 ^ 32
