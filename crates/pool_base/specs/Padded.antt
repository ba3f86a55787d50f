-- Lists of a fixed length of which only the first elements are kept.
use Rattle.std.specs.Prelude.{ℕ, ◌-◌, ◌++◌, List, length, replicate}

-- a list with copies of an element after it, up to a length
abbrev pub padded : {A : Type 0} → ℕ → A → List A → List A
padded size fill xs = xs ++ replicate (size - length xs) fill
