-- A map of names to places, and what is at the places.
use Rattle.std.specs.Prelude.{ℕ, map}
use Rattle.std.specs.FinMap as fm
use Rattle.lwc_types.specs.Names.{name_cmp}

-- the map of names to what is at their places
unfoldable pub mapped : {X : Type 0} → (ℕ → X) → fm.FinMap name_cmp ℕ → fm.FinMap name_cmp X
mapped at names = fm.from_sorted (map (λ e. (e.0, at e.1)) (fm.entries names))
