-- Tables of refusals.
use Rattle.std.specs.Prelude.{if◌then◌else◌, Bool, List, [], ◌∷◌, Option, None, Some}

-- the refusal of the first row whose test holds; a row is a test and the refusal that it means
abbrev pub first_refusal : {R : Type 0} → List (Bool × R) → Option R
first_refusal [] = None
first_refusal (row ∷ rows) = if row.0 then Some row.1 else first_refusal rows
