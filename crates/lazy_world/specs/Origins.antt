-- The row and the rights of a place that gets what origins give.
use Rattle.std.specs.Prelude.{if◌then◌else◌, nat_lt, ℕ, Bool, unwrap_or, ◌<◌, ◌+◌, ◌*◌, List, Option, None, Some}
use Rattle.std.specs.Prelude.{◌≡◌, [], slice_index_or, All, length, min, replicate}
use Rattle.std.specs.Option.{option_map}
use Rattle.lwc_base.specs.declared.cell.Cell.{Cell}
use Rattle.lwc_types.specs.declared.key.Key.TheVariants.{Page, Slot, Cred}
use Rattle.lwc_types.specs.declared.page.PageValue.{PageValue}
use Rattle.lwc_types.specs.declared.key.TheConstants.{SLOTS}
use Rattle.lwc_types.specs.declared.limits.TheConstants.{MOST_PAGES}
use Rattle.lwc_types.specs.declared.right.Right.{Right}
use Rattle.lwc_types.specs.declared.right.Right.TheVariants.{Write, Read}
use Rattle.range_map.specs.Kinds.{kind_of, ranges, state_of}
use Rattle.range_map.specs.declared.segment.PageState.{PageState}
use Rattle.cow_space.specs.declared.page_runs.Origin.{Origin}
use Rattle.cow_space.specs.declared.page_runs.Origin.TheVariants.{Absent, Zeros, Common, CopyOf}
use Rattle.cow_space.specs.declared.page_runs.PageRun.{PageRun}
use Rattle.cow_space.specs.Cells.{right_in}
use Rattle.cow_space.specs.Changes.{IsApart, IsPageRun, have_page, page_run_at}
use Rattle.lazy_world.specs.declared.pieces.PageOrigins.{PageOrigins}
use Rattle.lazy_world.specs.declared.pieces.PageOrigins.TheVariants.{AllOf, PageRuns}
use Rattle.lazy_world.specs.declared.pieces.Origins.{Origins}
use Rattle.lazy_world.specs.Cells.{Row, states_of}
use Rattle.lazy_world.specs.Transfers.{CanGet, given, given_or}

-- what pages get: an origin, and a right if it is not the origin's
abbrev pub Gift : Type 0
Gift = Origin × Option Right

-- what the pages of a page run get
abbrev pub gift_of : PageRun → Gift
gift_of page_run = (page_run.origin, page_run.right)

-- what a page gets, if a page run has it
abbrev pub gift_at : List PageRun → ℕ → Option Gift
gift_at page_runs p = option_map gift_of (page_run_at page_runs p)

-- the origin of a page, if a page run has it
abbrev pub origin_at : List PageRun → ℕ → Option Origin
origin_at page_runs p = option_map (λ gift. gift.0) (gift_at page_runs p)

-- the origin of a page
abbrev pub page_origin : PageOrigins → ℕ → Option Origin
page_origin (AllOf j) p = Some (CopyOf j)
page_origin (PageRuns page_runs reads) p = origin_at page_runs.items p

-- no page run and no range: all pages stay
abbrev pub HasNoRuns : PageOrigins → Type 0
HasNoRuns (AllOf j) = ⊥
HasNoRuns (PageRuns page_runs reads) = (page_runs.items ≡ []) × (reads.items ≡ [])

-- the right that an origin has at a page: only another place has one of its own
abbrev pub origin_right : (ℕ → ℕ → Right) → Origin → ℕ → Right
origin_right rights Absent p = Write
origin_right rights Zeros p = Write
origin_right rights (Common g) p = Write
origin_right rights (CopyOf j) p = rights j p

-- the right that a page gets, or the old one where it gets nothing
abbrev pub gift_right : (ℕ → ℕ → Right) → ℕ → Right → Option Gift → Right
gift_right rights p old None = old
gift_right rights p old (Some gift) = unwrap_or gift.1 (origin_right rights gift.0 p)

-- the right of a page of this cell: Write where it is absent, and Read where it may only be read
abbrev pub shown_right : Cell (Option PageValue) → Bool → Right → Right
shown_right cell read right = right_in (state_of (kind_of cell) (if read then Read else right))

-- a row with the pages that origins give
abbrev pub with_pages : (ℕ → Row) → PageOrigins → Row → Row
with_pages rows pages row (Page p) = given_or rows (Page p) (row (Page p)) (page_origin pages p)
with_pages rows pages row k = row k

-- rights with those of the pages that origins give the place i
abbrev pub with_rights : (ℕ → Row) → (ℕ → ℕ → Right) → ℕ → PageOrigins → ℕ → Right
with_rights rows rights i (AllOf j) p = rights j p
with_rights rows rights i (PageRuns page_runs reads) p =
    shown_right (given_or rows (Page p) (rows i (Page p)) (origin_at page_runs.items p))
    (have_page reads.items p) (gift_right rights p (rights i p) (gift_at page_runs.items p))

-- the states of the pages of the place i with those that origins give
abbrev pub with_states : (ℕ → Row) → (ℕ → ℕ → Right) → ℕ → PageOrigins → ℕ → Option PageState
with_states rows rights i pages = states_of (with_pages rows pages (rows i)) (with_rights rows rights i pages)

-- the states that a page run gives its pages
abbrev pub run_states : (ℕ → Row) → (ℕ → ℕ → Right) → PageRun → ℕ → Option PageState
run_states rows rights page_run q =
    state_of (kind_of (given rows (Page q) page_run.origin))
    (unwrap_or page_run.right (origin_right rights page_run.origin q))

-- the most free nodes that pages take of a place that had none
abbrev pub most_nodes : PageOrigins → ℕ
most_nodes (AllOf j) = 0
most_nodes (PageRuns page_runs reads) = min 1 (length page_runs.items) + 4 * length page_runs.items

-- the most node steps that pages take of a place that had none
abbrev pub most_steps : (ℕ → Row) → (ℕ → ℕ → Right) → PageOrigins → ℕ
most_steps rows rights (AllOf j) = min 1 (ranges MOST_PAGES (states_of (rows j) (rights j)))
most_steps rows rights (PageRuns page_runs reads) = 128 * length page_runs.items

-- the most free nodes that pages take of any place
abbrev pub any_nodes : PageOrigins → ℕ
any_nodes (AllOf j) = 0
any_nodes (PageRuns page_runs reads) = min 1 (length page_runs.items) + 8 * length page_runs.items

-- the most node steps that pages take of any place, which gives up at most 529 nodes
abbrev pub any_steps : PageOrigins → ℕ
any_steps (AllOf j) = 530
any_steps (PageRuns page_runs reads) = 1532 * length page_runs.items

-- the origin of a slot
abbrev pub slot_origin : List (Option Origin) → ℕ → Option Origin
slot_origin slots n = slice_index_or slots n None

-- a row with the slots below a number that origins give
abbrev pub with_slots : ℕ → (ℕ → Row) → List (Option Origin) → Row → Row
with_slots count rows slots row (Slot n) =
    if nat_lt n count then given_or rows (Slot n) (row (Slot n)) (slot_origin slots n) else row (Slot n)
with_slots count rows slots row k = row k

-- nothing has an origin
pub record AreNone (s : Origins) : Type 0 where
  pub pages : HasNoRuns s.pages
  pub slots : s.slots ≡ replicate 64 None
  pub uid : s.uid ≡ None

-- the row of a place with what origins give
abbrev pub origin_row : (ℕ → Row) → ℕ → Origins → Row
origin_row rows i s (Page p) = given_or rows (Page p) (rows i (Page p)) (page_origin s.pages p)
origin_row rows i s (Slot n) = given_or rows (Slot n) (rows i (Slot n)) (slot_origin s.slots n)
origin_row rows i s Cred = given_or rows Cred (rows i Cred) s.uid

-- the states of the pages of the place i with what origins give
abbrev pub origin_states : (ℕ → Row) → (ℕ → ℕ → Right) → ℕ → Origins → ℕ → Option PageState
origin_states rows rights i s = states_of (origin_row rows i s) (with_rights rows rights i s.pages)

-- origins can give a place pages
abbrev pub ArePagesGiven : ℕ → ℕ → PageOrigins → Type 0
ArePagesGiven count i (AllOf j) = IsApart count i (CopyOf j)
ArePagesGiven count i (PageRuns page_runs reads) = All (IsPageRun count i) page_runs.items

-- origins can give a place what they name
pub record AreGiven (count i : ℕ) (s : Origins) : Type 0 where
  pub pages : ArePagesGiven count i s.pages
  pub slots : (n : ℕ) → n < SLOTS → CanGet count i (slot_origin s.slots n)
  pub uid : CanGet count i s.uid
