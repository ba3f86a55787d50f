-- A search for places: marks, and the places that were found in their order.
use Rattle.std.specs.Prelude.{◌≡◌, ◌<◌, ◌+◌, ◌++◌, ◌∷◌, [], ℕ, zero, suc, if◌then◌else◌, Bool, true, false, List}
use Rattle.std.specs.Prelude.{Option, None, Some, count_by, length, nat_lt, not, slice_index, replicate, slice_set}
use Rattle.lwc_types.specs.declared.key.TheConstants.{SLOTS}
use Rattle.lwc_types.specs.declared.limits.TheConstants.{MOST_CONTEXTS}
use Rattle.reach.specs.Reach.{is_marked}

-- what a search has found
pub record Found : Type 0 where
  pub marks : List Bool
  pub order : List ℕ

-- there is a mark for each place, and each place is either found or not marked
pub record IsWhole (s : Found) : Type 0 where
  pub whole : length s.marks ≡ MOST_CONTEXTS
  pub room : length s.order + count_by not s.marks ≡ MOST_CONTEXTS

-- a search that has found nothing
abbrev pub nothing_found : Found
nothing_found = record { marks = replicate 529 false; order = [] }

-- a search that has found one place more, if it was not found before
abbrev pub visited : Found → ℕ → Found
visited s place = if is_marked s.marks place then s
    else record { marks = slice_set s.marks place true; order = s.order ++ place ∷ [] }

-- a search that has found the place of a link, if there is one
abbrev pub visited_link : Found → Option ℕ → Found
visited_link s None = s
visited_link s (Some place) = visited s place

-- a search that has found the places of the first links of a place
unfoldable pub with_links : (ℕ → ℕ → Option ℕ) → ℕ → Found → ℕ → Found
with_links link_of place s zero = s
with_links link_of place s (suc n) = visited_link (with_links link_of place s n) (link_of place n)

-- a search that has found the places that the place of the order at i links to, if the order has one there
abbrev pub expanded : (ℕ → ℕ → Option ℕ) → Found → ℕ → Found
expanded link_of s i = if nat_lt i (length s.order) then with_links link_of (slice_index s.order i) s SLOTS else s

-- the first slots of a place link to places that there are
pub record LinksWithin (link_of : ℕ → ℕ → Option ℕ) (place n : ℕ) : Type 0 where
  pub each : (slot next : ℕ) → slot < n → link_of place slot ≡ Some next → next < MOST_CONTEXTS
