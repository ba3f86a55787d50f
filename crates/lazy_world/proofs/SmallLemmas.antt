-- Small facts of tests, orders and options.
use Rattle.std.proofs.Common.{◌≡◌, ℕ, refl, Option, Some, None}
use Rattle.std.specs.Option.{option_map}

-- a value that is found has a place
pub place_of_found : {X : Type 0} (o : Option ℕ) (at : ℕ → X) (x : X) → option_map at o ≡ Some x → (i : ℕ) × (o ≡ Some i)
place_of_found None at x is = cc
place_of_found (Some i) at x is = (i, refl)
