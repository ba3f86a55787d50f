-- The cells at places, each of a context or a group.
use Rattle.std.specs.Prelude.{◌≡◌, ℕ, ◌==◌, if◌then◌else◌, Bool, true, false, not, List, Option, None, Some}
use Rattle.std.specs.Prelude.{slice_index_or}
use Rattle.lwc_base.specs.declared.cell.Cell.{Cell}
use Rattle.lwc_base.specs.declared.cell.Cell.TheVariants.{Own, Common}
use Rattle.lwc_base.specs.Keys.{ValueOf, nothing}
use Rattle.lwc_base.specs.Mapping.{on_pages}
use Rattle.lwc_base.specs.Ranges.{is_page}
use Rattle.lwc_types.specs.declared.key.Key.{Key}
use Rattle.lwc_types.specs.declared.key.Key.TheVariants.{Page, Slot, Cred}
use Rattle.lwc_types.specs.declared.key.TheConstants.{NOBODY}
use Rattle.lwc_types.specs.declared.page.PageValue.{PageValue}
use Rattle.lwc_types.specs.declared.page.PageValue.TheVariants.{Zero}
use Rattle.lwc_types.specs.declared.right.Right.{Right}
use Rattle.range_map.specs.Kinds.{kind_of, state_of}
use Rattle.range_map.specs.declared.segment.PageState.{PageState}
use Rattle.range_map.specs.declared.segment.SegmentKind.{SegmentKind}
use Rattle.range_map.specs.declared.segment.SegmentKind.TheVariants as kinds
use Rattle.fd_table.specs.Slots as slots
use Rattle.cow_space.specs.declared.page_runs.Origin.{Origin}
use Rattle.cow_space.specs.declared.page_runs.Origin.TheVariants.{Absent, Zeros}
use Rattle.cow_space.specs.Cells.{Place, place_of}

-- a cell under each key
abbrev pub Row : Type 0
Row = (k : Key) → Cell (ValueOf k)

-- nothing under each key
abbrev pub no_row : Row
no_row k = Own (nothing k)

-- rows of places, with another one at a place
abbrev pub put_row : (ℕ → Row) → ℕ → Row → ℕ → Row
put_row rows i row j = if j == i then row else rows j

-- the rows of places that have these pages, slots and credentials
unfoldable pub rows_of : List Place → List (ℕ → slots.Slot) → List (Cell ℕ) → ℕ → Row
rows_of pages table uids i (Page p) = place_of pages i p
rows_of pages table uids i (Slot n) = (slots.row_of table i n).cell
rows_of pages table uids i Cred = slice_index_or uids i (Own NOBODY)

-- the cell of a page of zeros, or of an absent page
abbrev pub page_cell : Bool → Cell (Option PageValue)
page_cell present = Own (if present then Some Zero else None)

-- a row with pages of zeros in a range, or without pages there
abbrev pub set_pages : ℕ → ℕ → Bool → Row → Row
set_pages from to present row = on_pages from to (page_cell present) row

-- rights of places, with others at a place
abbrev pub put_rights : (ℕ → ℕ → Right) → ℕ → (ℕ → Right) → ℕ → ℕ → Right
put_rights rights i right j = if j == i then right else rights j

-- the states of the pages of a row that have these rights
abbrev pub states_of : Row → (ℕ → Right) → ℕ → Option PageState
states_of row right p = state_of (kind_of (row (Page p))) (right p)

-- a row with all pages of a place
abbrev pub on_place : Place → Row → Row
on_place place row (Page p) = place p
on_place place row k = row k

-- a row has no page
abbrev pub HasNoPages : Row → Type 0
HasNoPages row = (p : ℕ) → row (Page p) ≡ Own None

-- whether a cell is the place's own
abbrev pub is_own : {T : Type 0} → Cell T → Bool
is_own (Own value) = true
is_own (Common g) = false

-- whether pages of a kind are common
abbrev pub is_common : SegmentKind → Bool
is_common kinds.Own = false
is_common (kinds.Common g) = true

-- each page of a row is the place's own
abbrev pub HasOwnPages : Row → Type 0
HasOwnPages row = (p : ℕ) → is_own (row (Page p)) ≡ true

-- whether a cell is the place's own with nothing in it; a credential always passes
abbrev pub is_nothing : (k : Key) → Cell (ValueOf k) → Bool
is_nothing (Page p) cell = not (is_page cell)
is_nothing (Slot n) cell = not (slots.is_filled cell)
is_nothing Cred cell = true

-- what pages of a range get
abbrev pub origin_of : Bool → Origin
origin_of present = if present then Zeros else Absent
