-- The kinds and the rights of a context's pages by segments, after changes, and their number of ranges.
use Rattle.std.specs.Prelude.{◌≡◌, ◌<◌, ◌≤◌, All, ◌&&◌, ◌||◌, ◌==◌, if◌then◌else◌, ℕ, zero, suc, Bool, true, false}
use Rattle.std.specs.Prelude.{not, List, Option, None, Some, count_by, is_some, length, nat_le, nat_lt}
use Rattle.std.specs.List.{AllPairs, find, list_any, range_with_len}
use Rattle.std.specs.Option.{option_map}
use Rattle.std.specs.Ordering.{is_eq}
use Rattle.lwc_base.specs.Rights.{same_right}
use Rattle.lwc_base.specs.declared.cell.Cell.{Cell}
use Rattle.lwc_base.specs.declared.cell.Cell.TheVariants as cell
use Rattle.lwc_types.specs.Names.{name_cmp}
use Rattle.lwc_types.specs.declared.limits.TheConstants.{MOST_PAGES}
use Rattle.lwc_types.specs.declared.page.PageValue.{PageValue}
use Rattle.lwc_types.specs.declared.right.Right.{Right}
use Rattle.range_map.specs.declared.segment.Change.{Change}
use Rattle.range_map.specs.declared.segment.PageState.{PageState}
use Rattle.range_map.specs.declared.segment.Segment.{Segment}
use Rattle.range_map.specs.declared.segment.SegmentKind.{SegmentKind}
use Rattle.range_map.specs.declared.segment.SegmentKind.TheVariants.{Own, Common}

-- whether a page is from one on and below another
abbrev pub is_between : ℕ → ℕ → ℕ → Bool
is_between from to p = nat_le from p && nat_lt p to

-- whether a segment begins or ends at a page
abbrev pub is_edge : List Segment → ℕ → Bool
is_edge segments p = list_any (λ s. (s.from == p) || (s.to == p)) segments

-- the state of a segment's pages
abbrev pub state_in : Segment → PageState
state_in s = record { kind = s.kind; right = s.right }

-- the state of a page: that of the segment that has it, and none where the page is absent
unfoldable pub state_at : List Segment → ℕ → Option PageState
state_at segments p = option_map state_in (find (λ s. is_between s.from s.to p) segments)

-- the kind and the right of a page; an absent page has none
abbrev pub kind_at : List Segment → ℕ → Option SegmentKind
kind_at segments p = option_map (λ s. s.kind) (state_at segments p)

abbrev pub right_at : List Segment → ℕ → Option Right
right_at segments p = option_map (λ s. s.right) (state_at segments p)

-- the state of a page of a kind and a right
abbrev pub state_of : Option SegmentKind → Right → Option PageState
state_of None right = None
state_of (Some kind) right = Some (record { kind = kind; right = right })

-- the state that a change gives its pages
abbrev pub given : Change → Option PageState
given change = state_of change.kind change.right

-- the state by the change that was found, and the one before where none was
abbrev pub state_by : Option PageState → Option Change → Option PageState
state_by before None = before
state_by before (Some change) = given change

-- the state of a page after changes
unfoldable pub state_after : List Change → List Segment → ℕ → Option PageState
state_after changes segments p = state_by (state_at segments p) (find (λ c. is_between c.from c.to p) changes)

-- states with one for the pages from one on and below another
abbrev pub put_state : (ℕ → Option PageState) → ℕ → ℕ → PageState → ℕ → Option PageState
put_state states from to state p = if is_between from to p then Some state else states p

-- the kind of a cell of a page
abbrev pub kind_of : Cell (Option PageValue) → Option SegmentKind
kind_of (cell.Own None) = None
kind_of (cell.Own (Some value)) = Some Own
kind_of (cell.Common g) = Some (Common g)

-- whether two kinds are the same
abbrev pub same_kind : SegmentKind → SegmentKind → Bool
same_kind Own Own = true
same_kind (Common g) (Common h) = is_eq (name_cmp g h)
same_kind _ _ = false

-- whether two pages are present, of one kind and of one right
abbrev pub are_alike : Option PageState → Option PageState → Bool
are_alike (Some a) (Some b) = same_kind a.kind b.kind && same_right a.right b.right
are_alike _ _ = false

-- whether a page continues the range of the page before it; no page is before the first
abbrev pub continues_range : (ℕ → Option PageState) → ℕ → Bool
continues_range states zero = false
continues_range states (suc p) = are_alike (states p) (states (suc p))

-- whether a range begins at a page
unfoldable pub begins_range : (ℕ → Option PageState) → ℕ → Bool
begins_range states p = is_some (states p) && not (continues_range states p)

-- the number of ranges of pages with these states, of which there are this number
unfoldable pub ranges : ℕ → (ℕ → Option PageState) → ℕ
ranges pages states = count_by (begins_range states) (range_with_len 0 pages)

-- a segment has a page, and none past the last one
pub record IsSegment (s : Segment) : Type 0 where
  pub some : s.from < s.to
  pub inside : s.to ≤ MOST_PAGES

-- a segment ends before another begins, or where it begins if they are not alike
pub record IsBefore (s t : Segment) : Type 0 where
  pub ordered : s.to ≤ t.from
  pub parted : s.to ≡ t.from → are_alike (Some (state_in s)) (Some (state_in t)) ≡ false

-- segments have pages and stand in order, one for each range, and none has a page past the last one
pub record IsCanonical (segments : List Segment) : Type 0 where
  pub some : All (λ s. s.from < s.to) segments
  pub apart : AllPairs IsBefore segments
  pub within : (p : ℕ) → MOST_PAGES ≤ p → state_at segments p ≡ None
  pub counted : length segments ≡ ranges MOST_PAGES (state_at segments)
