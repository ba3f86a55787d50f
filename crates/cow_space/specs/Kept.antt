-- What ties the rows of places to the kinds of their pages.
use Rattle.std.specs.Prelude.{◌≡◌, ◌≢◌, ◌≤◌, ℕ, Bool, true, false, not, List, Option, None, Some, is_some, length}
use Rattle.std.specs.List.{list_any}
use Rattle.lwc_types.specs.declared.limits.TheConstants.{MOST_PAGES}
use Rattle.lwc_types.specs.declared.page.PageValue.{PageValue}
use Rattle.range_map.specs.declared.segment.Segment.{Segment}
use Rattle.range_map.specs.declared.segment.SegmentKind.{SegmentKind}
use Rattle.range_map.specs.declared.segment.SegmentKind.TheVariants.{Own, Common}
use Rattle.range_map.specs.Kinds.{kind_at, state_at}
use Rattle.cow_space.specs.Maps.{row_of}
use Rattle.cow_space.specs.Cells.{segments_of}

-- whether a page of a kind may have this value in its row: only one that is the place's own has any
abbrev pub may_have : Option SegmentKind → Option PageValue → Bool
may_have (Some Own) value = true
may_have _ value = not (is_some value)

-- whether a kind is that of pages that are the place's own
abbrev pub is_own : SegmentKind → Bool
is_own Own = true
is_own (Common g) = false

-- whether by these segments a page is the place's own
abbrev pub has_own : List Segment → Bool
has_own segments = list_any (λ s. is_own s.kind) segments

-- by these segments no page is the place's own
abbrev pub HasNoOwnPage : List Segment → Type 0
HasNoOwnPage segments = (p : ℕ) → kind_at segments p ≢ Some Own

-- each place has a row that fits the kinds of its pages, and no page past the last one
pub record IsKept (maps : List (ℕ → Option PageValue)) (kinds : List (List Segment)) : Type 0 where
  pub places : length kinds ≡ length maps
  pub fit : (i p : ℕ) → may_have (kind_at (segments_of kinds i) p) (row_of maps i p) ≡ true
  pub within : (i p : ℕ) → MOST_PAGES ≤ p → state_at (segments_of kinds i) p ≡ None
