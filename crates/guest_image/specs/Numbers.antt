-- Numbers one after another: whether they rise, and the ranges that they make.
use Rattle.std.specs.Prelude.{ℕ, ◌+◌, Bool, true, not, ◌&&◌, nat_lt, ◌==◌, if◌then◌else◌, List, [], ◌∷◌, Option}
use Rattle.std.specs.Prelude.{Some, None}

-- whether n is above the number before it, if there is one
abbrev pub is_above : Option ℕ → ℕ → Bool
is_above None n = true
is_above (Some m) n = nat_lt m n

-- whether n begins a range: it does not come directly after the number before it
abbrev pub begins : Option ℕ → ℕ → Bool
begins None n = true
begins (Some m) n = not (n == m + 1)

-- the number of ranges, with one more where n begins one
abbrev pub ranges_with : ℕ → Option ℕ → ℕ → ℕ
ranges_with ranges before n = if begins before n then ranges + 1 else ranges

-- the last number; where there is none, the number that was given
unfoldable pub last_after : Option ℕ → List ℕ → Option ℕ
last_after before [] = before
last_after before (n ∷ ns) = last_after (Some n) ns

-- whether each number is above the one before it
unfoldable pub rising_after : Option ℕ → List ℕ → Bool
rising_after before [] = true
rising_after before (n ∷ ns) = is_above before n && rising_after (Some n) ns

-- how many of the numbers begin a range
unfoldable pub ranges_after : Option ℕ → List ℕ → ℕ
ranges_after before [] = 0
ranges_after before (n ∷ ns) = ranges_with (ranges_after (Some n) ns) before n

-- the last of the numbers
abbrev pub last : List ℕ → Option ℕ
last ns = last_after None ns

-- whether the numbers rise
abbrev pub rising : List ℕ → Bool
rising ns = rising_after None ns

-- the number of ranges: each is a longest run of numbers that follow one another without a gap
abbrev pub ranges : List ℕ → ℕ
ranges ns = ranges_after None ns
