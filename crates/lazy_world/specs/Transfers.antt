-- What places get of the cells and rights of a context, and from where.
use Rattle.std.specs.Prelude.{◌≡◌, ◌≢◌, ℕ, ◌<◌, ◌≤◌, ◌==◌, if◌then◌else◌, Bool, true, false, List, Option, None}
use Rattle.std.specs.Prelude.{Some, unwrap_or}
use Rattle.lwc_base.specs.declared.cell.Cell.{Cell}
use Rattle.lwc_base.specs.declared.cell.Cell.TheVariants as cells
use Rattle.lwc_base.specs.declared.item.Item.{Item}
use Rattle.lwc_base.specs.declared.item.Mode.{Mode}
use Rattle.lwc_base.specs.declared.item.Mode.TheVariants.{Copy, Share, Unmap, CopyRead}
use Rattle.lwc_base.specs.Cells.{value_of}
use Rattle.lwc_base.specs.Keys.{ValueOf, nothing}
use Rattle.lwc_base.specs.Modes.{mode}
use Rattle.lwc_base.specs.Ranges.{is_page}
use Rattle.lwc_base.specs.Rights.{read_right}
use Rattle.lwc_base.specs.Sharing.{is_moved, moved_value, shared_cell}
use Rattle.lwc_base.specs.World.{World, group}
use Rattle.lwc_types.specs.declared.key.Key.{Key}
use Rattle.lwc_types.specs.declared.key.Key.TheVariants.{Page, Slot, Cred}
use Rattle.lwc_types.specs.declared.name.Name.{Name}
use Rattle.lwc_types.specs.declared.page.PageValue.TheVariants.{Zero}
use Rattle.lwc_types.specs.declared.right.Right.{Right}
use Rattle.lwc_types.specs.declared.right.Right.TheVariants.{Write}
use Rattle.range_map.specs.Kinds as kinds
use Rattle.range_map.specs.declared.segment.SegmentKind.{SegmentKind}
use Rattle.range_map.specs.declared.segment.SegmentKind.TheVariants.{Own, Common}
use Rattle.cow_space.specs.declared.page_runs.Origin.{Origin}
use Rattle.cow_space.specs.declared.page_runs.Origin.TheVariants as origins
use Rattle.cow_space.specs.Changes.{IsApart}
use Rattle.lazy_world.specs.Cells.{Row}
use Rattle.lazy_world.specs.declared.transfer.Found.{Found}
use Rattle.lazy_world.specs.declared.transfer.Transfer.{Transfer}
use Rattle.lazy_world.specs.declared.transfer.Transfer.TheVariants as transfers

-- who has the value of a cell
abbrev pub owner : {T : Type 0} → Cell T → SegmentKind
owner (cells.Own value) = Own
owner (cells.Common g) = Common g

-- who has the value of a cell under a key; nobody has an absent page
abbrev pub kind_in : (k : Key) → Cell (ValueOf k) → Option SegmentKind
kind_in (Page p) cell = kinds.kind_of cell
kind_in (Slot n) cell = Some (owner cell)
kind_in Cred cell = Some (owner cell)

-- the cell of a value by its mode: a copy, the same cell where what moves is common of a group, or nothing
abbrev pub taken_cell : World → Name → Mode → (k : Key) → Cell (ValueOf k) → Cell (ValueOf k)
taken_cell w g Copy k cell = cells.Own (value_of w k cell)
taken_cell w g Share k cell = shared_cell g Share k cell
taken_cell w g Unmap k cell = cells.Own (nothing k)
taken_cell w g CopyRead k cell = cells.Own (value_of w k cell)

-- the cell of a value that is taken over; where no item names the key the old one stays
abbrev pub overlaid_cell : World → Name → Option Mode → (k : Key) → Cell (ValueOf k) → Cell (ValueOf k) →
    Cell (ValueOf k)
overlaid_cell w g None k cell old = old
overlaid_cell w g (Some m) k cell old = taken_cell w g m k cell

-- the cell that a place gets by a transfer, of a context's cell, and where it has an old one
abbrev pub transferred_cell : World → Transfer → Option Mode → (k : Key) → Cell (ValueOf k) → Cell (ValueOf k) →
    Cell (ValueOf k)
transferred_cell w (transfers.Mark g) m k cell old = shared_cell g (unwrap_or m Copy) k cell
transferred_cell w transfers.Move m k cell old = cells.Own (moved_value (unwrap_or m Copy) k cell)
transferred_cell w (transfers.Clone g) m k cell old = taken_cell w g (unwrap_or m Copy) k cell
transferred_cell w (transfers.Overlay g) m k cell old = overlaid_cell w g m k cell old

-- the row that a place gets
abbrev pub transferred_row : World → Transfer → List Item → Row → Row → Row
transferred_row w transfer items row old k = transferred_cell w transfer (mode items k) k (row k) (old k)

-- the right of a page by its mode: the same, Read where it is copied to be read alone, or that of an absent
-- page
abbrev pub taken_right : Mode → Bool → Right → Right
taken_right Copy present right = right
taken_right Share present right = right
taken_right Unmap present right = Write
taken_right CopyRead present right = read_right present

-- the right of a page that is taken over; where no item names the page the old one stays
abbrev pub overlaid_right : Option Mode → Bool → Right → Right → Right
overlaid_right None present right old = old
overlaid_right (Some m) present right old = taken_right m present right

-- the right that a page of a place gets by a transfer, of a context's page, and where it has an old one; that
-- of a group's page says nothing
abbrev pub transferred_right : Transfer → Option Mode → (p : ℕ) → Cell (ValueOf (Page p)) → Right → Right →
    Right
transferred_right (transfers.Mark g) m p cell right old = right
transferred_right transfers.Move m p cell right old =
    if is_moved (unwrap_or m Copy) (Page p) cell then right else Write
transferred_right (transfers.Clone g) m p cell right old = taken_right (unwrap_or m Copy) (is_page cell) right
transferred_right (transfers.Overlay g) m p cell right old = overlaid_right m (is_page cell) right old

-- the rights that a place gets
abbrev pub transferred_rights : Transfer → List Item → Row → (ℕ → Right) → (ℕ → Right) → ℕ → Right
transferred_rights transfer items row right old p =
    transferred_right transfer (mode items (Page p)) p (row (Page p)) (right p) (old p)

-- whether a mode copies pages that may only be read
abbrev pub is_read : Option Mode → Bool
is_read None = false
is_read (Some Copy) = false
is_read (Some Share) = false
is_read (Some Unmap) = false
is_read (Some CopyRead) = true

-- whether a transfer makes a page of a mode one that may only be read
abbrev pub reads : Transfer → Option Mode → Bool
reads (transfers.Mark g) m = false
reads transfers.Move m = false
reads (transfers.Clone g) m = is_read m
reads (transfers.Overlay g) m = is_read m

-- whether the value of a row under a key moves by items
abbrev pub moves : List Item → Key → Row → Bool
moves items k row = is_moved (unwrap_or (mode items k) Copy) k (row k)

-- a copy from another place, or what is there
abbrev pub other_origin : ℕ → ℕ → Option Origin
other_origin from to = if from == to then None else Some (origins.CopyOf from)

-- a copy of what a group's place has, if the group is live
abbrev pub copied_origin : Option ℕ → Origin
copied_origin None = origins.Absent
copied_origin (Some place) = origins.CopyOf place

-- whether a value of a mode moves
abbrev pub moved_origin : Option Mode → Option SegmentKind → Bool
moved_origin (Some Share) (Some Own) = true
moved_origin _ _ = false

-- where a value comes from that is copied
abbrev pub shown_origin : Origin → Option SegmentKind → ℕ → ℕ → Option Origin
shown_origin common None from to = Some origins.Absent
shown_origin common (Some Own) from to = other_origin from to
shown_origin common (Some (Common g)) from to = Some common

-- where a value comes from that is shared, and that moves into a group if it is the context's own
abbrev pub share_origin : Name → Option SegmentKind → Origin
share_origin group None = origins.Absent
share_origin group (Some Own) = origins.Common group
share_origin group (Some (Common g)) = origins.Common g

-- where a value of a mode comes from
abbrev pub taken_origin : Name → Mode → Found → ℕ → ℕ → Option Origin
taken_origin g Copy found from to = shown_origin (copied_origin found.holder) found.kind from to
taken_origin g Share found from to = Some (share_origin g found.kind)
taken_origin g Unmap found from to = Some origins.Absent
taken_origin g CopyRead found from to = shown_origin (copied_origin found.holder) found.kind from to

-- where a value comes from that is taken over
abbrev pub overlaid_origin : Name → Option Mode → Found → ℕ → ℕ → Option Origin
overlaid_origin g None found from to = None
overlaid_origin g (Some m) found from to = taken_origin g m found from to

-- where a place gets what it has under a key by a transfer
abbrev pub origin_of : Transfer → Option Mode → Found → ℕ → ℕ → Option Origin
origin_of (transfers.Mark g) m found from to = if moved_origin m found.kind then Some (origins.Common g) else None
origin_of transfers.Move m found from to =
    Some (if moved_origin m found.kind then origins.CopyOf from else origins.Absent)
origin_of (transfers.Clone g) m found from to = taken_origin g (unwrap_or m Copy) found from to
origin_of (transfers.Overlay g) m found from to = overlaid_origin g m found from to

-- a value that an origin of zeros gives
abbrev pub zeros : (k : Key) → ValueOf k
zeros (Page p) = Some Zero
zeros k = nothing k

-- the cell that an origin gives
abbrev pub given : (ℕ → Row) → (k : Key) → Origin → Cell (ValueOf k)
given rows k origins.Absent = cells.Own (nothing k)
given rows k origins.Zeros = cells.Own (zeros k)
given rows k (origins.Common g) = cells.Common g
given rows k (origins.CopyOf j) = rows j k

-- the cell that an origin gives, or the old one without an origin
abbrev pub given_or : (ℕ → Row) → (k : Key) → Cell (ValueOf k) → Option Origin → Cell (ValueOf k)
given_or rows k old None = old
given_or rows k old (Some origin) = given rows k origin

-- the transfer is one for these places
abbrev pub IsFor : ℕ → ℕ → ℕ → Transfer → Type 0
IsFor contexts from to (transfers.Mark g) = from ≡ to
IsFor contexts from to transfers.Move = from ≢ to
IsFor contexts from to (transfers.Clone g) = to < contexts
IsFor contexts from to (transfers.Overlay g) = to < contexts

-- a place can get this: there is no origin, or it is another one of this number of places, or no place
abbrev pub CanGet : ℕ → ℕ → Option Origin → Type 0
CanGet count to None = Unit {0}
CanGet count to (Some origin) = IsApart count to origin

-- an origin gives a place this cell under a key
pub record Gives (count : ℕ) (rows : ℕ → Row) (to : ℕ) (k : Key) (wanted : Cell (ValueOf k))
    (origin : Option Origin) : Type 0 where
  pub cell : given_or rows k (rows to k) origin ≡ wanted
  pub can : CanGet count to origin

-- what is found under a key is the cell there, and what its group has
pub record IsFound (w : World) (contexts count : ℕ) (rows : ℕ → Row) (k : Key) (cell : Cell (ValueOf k))
    (found : Found) : Type 0 where
  pub kind : found.kind ≡ kind_in k cell
  pub value : (g : Name) → cell ≡ cells.Common g →
      given rows k (copied_origin found.holder) ≡ cells.Own ((group w g).value k)
  pub behind : (j : ℕ) → found.holder ≡ Some j → contexts ≤ j
  pub inside : (j : ℕ) → found.holder ≡ Some j → j < count
