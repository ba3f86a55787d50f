-- The cells and the rights of a place once page runs of its pages have changed.
use Rattle.std.specs.Prelude.{◌≡◌, ◌==◌, ◌&&◌, ◌||◌, ◌≢◌, ◌<◌, ◌≤◌, if◌then◌else◌, ℕ, Bool, true, List, Option}
use Rattle.std.specs.Prelude.{None, Some, drop, is_some, length, not, slice_index_or, take, unwrap_or}
use Rattle.std.specs.List.{find, list_any}
use Rattle.std.specs.Option.{option_eq, option_map}
use Rattle.lwc_base.specs.declared.cell.Cell.{Cell}
use Rattle.lwc_base.specs.declared.cell.Cell.TheVariants as cell
use Rattle.lwc_types.specs.declared.limits.TheConstants.{MOST_PAGES}
use Rattle.lwc_types.specs.declared.page.PageValue.{PageValue}
use Rattle.lwc_types.specs.declared.page.PageValue.TheVariants as value
use Rattle.lwc_types.specs.declared.right.Right.{Right}
use Rattle.lwc_types.specs.declared.right.Right.TheVariants.{Write, Read}
use Rattle.range_map.specs.Kinds.{is_between, kind_of, state_at, state_of}
use Rattle.range_map.specs.contracts.segment.PageStatePartialEq.TheImpl.{eq-value}
use Rattle.range_map.specs.declared.segment.PageState.{PageState}
use Rattle.range_map.specs.declared.segment.Segment.{Segment}
use Rattle.cow_space.specs.declared.kinds.Rising.{Rising}
use Rattle.cow_space.specs.declared.page_runs.Origin.{Origin}
use Rattle.cow_space.specs.declared.page_runs.Origin.TheVariants.{Absent, Zeros, Common, CopyOf}
use Rattle.lwc_types.specs.declared.range.Range.{Range}
use Rattle.cow_space.specs.declared.page_runs.PageRun.{PageRun}
use Rattle.cow_space.specs.Cells.{Place, place_of, right_in, rights_of, states_of}

-- the cell that a page gets of an origin
abbrev pub origin_cell : List Place → Origin → ℕ → Cell (Option PageValue)
origin_cell cells Absent p = cell.Own None
origin_cell cells Zeros p = cell.Own (Some value.Zero)
origin_cell cells (Common g) p = cell.Common g
origin_cell cells (CopyOf j) p = place_of cells j p

-- the cell of a page by the page run that was found, and the one before where none was
abbrev pub cell_by : List Place → ℕ → Cell (Option PageValue) → Option PageRun → Cell (Option PageValue)
cell_by cells p before None = before
cell_by cells p before (Some page_run) = origin_cell cells page_run.origin p

-- the first of page runs that has a page
abbrev pub page_run_at : List PageRun → ℕ → Option PageRun
page_run_at page_runs p = find (λ s. is_between s.range.from s.range.to p) page_runs

-- whether a page run begins or ends at a page
abbrev pub is_edge : List PageRun → ℕ → Bool
is_edge page_runs p = list_any (λ s. (s.range.from == p) || (s.range.to == p)) page_runs

-- page runs from a number on rise: each one begins where those before it end, or later
pub record RiseFrom (n : ℕ) (page_runs : List PageRun) : Type 0 where
  pub order : (k : ℕ) (d : PageRun) → n ≤ k → k < length page_runs →
      (slice_index_or page_runs k d).range.from ≤ (slice_index_or page_runs k d).range.to
  pub apart : (j k : ℕ) (d : PageRun) → n ≤ j → j < k → k < length page_runs →
      (slice_index_or page_runs j d).range.to ≤ (slice_index_or page_runs k d).range.from

-- all page runs rise
abbrev pub Rise : List PageRun → Type 0
Rise page_runs = RiseFrom 0 page_runs

-- page runs rise from a number on, and those before it do where that is said
pub record IsSplit (rising : Rising) (page_runs : List PageRun) : Type 0 where
  pub within : rising.from ≤ length page_runs
  pub last : Rise (drop rising.from page_runs)
  pub first : rising.first ≡ true → Rise (take rising.from page_runs)

-- the cells of a place after page runs
unfoldable pub changed_place : List Place → ℕ → List PageRun → Place
changed_place cells i page_runs p = cell_by cells p (place_of cells i p) (page_run_at page_runs p)

-- the right that an origin has at a page: only another place has one of its own
abbrev pub origin_right : List (ℕ → Right) → Origin → ℕ → Right
origin_right rights Absent p = Write
origin_right rights Zeros p = Write
origin_right rights (Common g) p = Write
origin_right rights (CopyOf j) p = rights_of rights j p

-- the right by the page run that was found: what it says, or else its origin has; before where none was found
abbrev pub right_by : List (ℕ → Right) → ℕ → Right → Option PageRun → Right
right_by rights p before None = before
right_by rights p before (Some page_run) = unwrap_or page_run.right (origin_right rights page_run.origin p)

-- whether ranges have a page
abbrev pub have_page : List Range → ℕ → Bool
have_page ranges p = list_any (λ r. is_between r.from r.to p) ranges

-- the rights of a place after page runs: Read in some ranges, and Write where a page is absent then
unfoldable pub changed_rights : List Place → List (ℕ → Right) → ℕ → List PageRun → List Range
    → ℕ → Right
changed_rights cells rights i page_runs reads p =
    right_in (state_of (kind_of (changed_place cells i page_runs p))
    (if have_page reads p then Read else right_by rights p (rights_of rights i p) (page_run_at page_runs p)))

-- the states of the pages of a place after page runs
abbrev pub changed_states : List Place → List (ℕ → Right) → ℕ → List PageRun → List Range
    → ℕ → Option PageState
changed_states cells rights i page_runs reads =
    states_of (changed_place cells i page_runs) (changed_rights cells rights i page_runs reads)

-- the states that a page run gives its pages
abbrev pub given_states : List Place → List (ℕ → Right) → PageRun → ℕ → Option PageState
given_states cells rights page_run p =
    state_of (kind_of (origin_cell cells page_run.origin p))
    (unwrap_or page_run.right (origin_right rights page_run.origin p))

-- a state with another right, where one is given
abbrev pub with_right : Option Right → PageState → PageState
with_right right state = record { kind = state.kind; right = unwrap_or right state.right }

-- the states of the pages of segments, with another right where one is given
unfoldable pub states_with : List Segment → Option Right → ℕ → Option PageState
states_with segments right p = option_map (with_right right) (state_at segments p)

-- 1 where a range begins at a page of a state, after one of another state
abbrev pub begun : Option PageState → Option PageState → ℕ
begun before state = if is_some state && not (option_eq eq-value.it before state) then 1 else 0

-- whether a range begins or ends at a page
abbrev pub is_range_edge : List Range → ℕ → Bool
is_range_edge ranges p = list_any (λ r. (r.from == p) || (r.to == p)) ranges

-- an origin is another one of this number of places, or no place
abbrev pub IsApart : ℕ → ℕ → Origin → Type 0
IsApart count i Absent = Unit {0}
IsApart count i Zeros = Unit {0}
IsApart count i (Common g) = Unit {0}
IsApart count i (CopyOf j) = (j < count) × (j ≢ i)

-- a page run of one of this number of places
pub record IsPageRun (count i : ℕ) (page_run : PageRun) : Type 0 where
  pub order : page_run.range.from ≤ page_run.range.to
  pub inside : page_run.range.to ≤ MOST_PAGES
  pub given : IsApart count i page_run.origin
