-- Which places are reached from roots by links.
use Rattle.std.specs.Prelude.{◌≡◌, ◌<◌, ℕ, Bool, false, List, Option, Some, slice_index_or}
use Rattle.std.specs.List.{Contains}
use Rattle.lwc_types.specs.declared.key.TheConstants.{SLOTS}

-- a place is reached: it is a root, or a slot of a reached place links to it
pub data Reaches (link_of : ℕ → ℕ → Option ℕ) (roots : List ℕ) : ℕ → Type 0 where
  Root : (place : ℕ) → Contains roots place → Reaches link_of roots place
  Link : (place slot next : ℕ) → Reaches link_of roots place → slot < SLOTS → link_of place slot ≡ Some next →
      Reaches link_of roots next

-- whether a place is marked
abbrev pub is_marked : List Bool → ℕ → Bool
is_marked marks place = slice_index_or marks place false
