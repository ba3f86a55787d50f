-- The cells and the rights of the pages of places, by segments and by the rows that have their values.
use Rattle.std.specs.Prelude.{◌≡◌, ℕ, List, [], Option, None, Some, length, map, slice_index_or, unwrap_or}
use Rattle.std.specs.List.{range_with_len}
use Rattle.lwc_base.specs.declared.cell.Cell.{Cell}
use Rattle.lwc_base.specs.declared.cell.Cell.TheVariants as cell
use Rattle.lwc_types.specs.declared.page.PageValue.{PageValue}
use Rattle.lwc_types.specs.declared.page.PageValue.TheVariants.{Zero}
use Rattle.lwc_types.specs.declared.right.Right.{Right}
use Rattle.lwc_types.specs.declared.right.Right.TheVariants.{Write}
use Rattle.range_map.specs.declared.segment.PageState.{PageState}
use Rattle.range_map.specs.declared.segment.Segment.{Segment}
use Rattle.range_map.specs.declared.segment.SegmentKind.{SegmentKind}
use Rattle.range_map.specs.declared.segment.SegmentKind.TheVariants.{Own, Common}
use Rattle.range_map.specs.Kinds.{kind_at, kind_of, state_at, state_of}
use Rattle.cow_space.specs.Maps.{row_of}

-- the cell of each page of a place
abbrev pub Place : Type 0
Place = ℕ → Cell (Option PageValue)

-- a place without pages
abbrev pub no_pages : Place
no_pages p = cell.Own None

-- the cells of a place
abbrev pub place_of : List Place → ℕ → Place
place_of cells i = slice_index_or cells i no_pages

-- the kinds of the pages of a place
abbrev pub kinds_of : Place → ℕ → Option SegmentKind
kinds_of place p = kind_of (place p)

-- the right Write for each page
abbrev pub all_write : ℕ → Right
all_write p = Write

-- the rights of the pages of a place
abbrev pub rights_of : List (ℕ → Right) → ℕ → ℕ → Right
rights_of rights i = slice_index_or rights i all_write

-- the states of the pages of a place, by its cells and its rights
abbrev pub states_of : Place → (ℕ → Right) → ℕ → Option PageState
states_of place right p = state_of (kind_of (place p)) (right p)

-- the right of a page of a state; an absent page has Write
abbrev pub right_in : Option PageState → Right
right_in None = Write
right_in (Some state) = state.right

-- a cell is of a present page that is the place's own
abbrev pub IsOwnPage : Cell (Option PageValue) → Type 0
IsOwnPage cell = kind_of cell ≡ Some Own

-- the cell of a page of a kind, where its row has this value; an own page without a value reads as zeros
abbrev pub cell_of : Option SegmentKind → Option PageValue → Cell (Option PageValue)
cell_of None value = cell.Own None
cell_of (Some Own) value = cell.Own (Some (unwrap_or value Zero))
cell_of (Some (Common g)) value = cell.Common g

-- the segments of a place
abbrev pub segments_of : List (List Segment) → ℕ → List Segment
segments_of kinds i = slice_index_or kinds i []

-- the cells of a place with these segments and this row
abbrev pub place_cells : List Segment → (ℕ → Option PageValue) → Place
place_cells segments row p = cell_of (kind_at segments p) (row p)

-- the cells of each place
unfoldable pub all_cells : List (List Segment) → List (ℕ → Option PageValue) → List Place
all_cells kinds maps = map (λ i. place_cells (segments_of kinds i) (row_of maps i)) (range_with_len 0 (length maps))

-- the rights of a place with these segments
abbrev pub place_rights : List Segment → ℕ → Right
place_rights segments p = right_in (state_at segments p)

-- the rights of each place
unfoldable pub all_rights : List (List Segment) → List (ℕ → Right)
all_rights kinds = map place_rights kinds
