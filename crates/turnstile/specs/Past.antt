-- A past is the list of the numbers of the passes that had a turn, the first turn first.
use Rattle.std.specs.Prelude.{◌≡◌, ◌==◌, ℕ, List, count_by}
use mathlib.Core.List.{IsPrefix}

-- how many turns of this number the past has
abbrev pub times : ℕ → List ℕ → ℕ
times number past = count_by (λ turn. turn == number) past

-- the past begins with what was seen, and has no further turn of this number
abbrev pub Knows : List ℕ → ℕ → List ℕ → Type 0
Knows past number seen = IsPrefix seen past × (times number past ≡ times number seen)
