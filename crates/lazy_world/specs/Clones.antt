-- Where the pages of a clone come from, and what pages cost.
use Rattle.std.specs.Prelude.{◌≡◌, ◌≤◌, ℕ, ◌+◌, ◌*◌, List, Option, None, Some, length, min}
use Rattle.std.specs.FinMap as fm
use Rattle.std.specs.Option.{option_map, option_or}
use Rattle.lwc_base.specs.declared.item.Item.{Item}
use Rattle.lwc_base.specs.declared.item.Mode.{Mode}
use Rattle.lwc_base.specs.declared.item.Mode.TheVariants.{Copy, Share, Unmap, CopyRead}
use Rattle.lwc_base.specs.Modes.{mode, mode_or_copy}
use Rattle.lwc_types.specs.declared.key.Key.TheVariants.{Page}
use Rattle.lwc_types.specs.declared.name.Name.{Name}
use Rattle.lwc_types.specs.declared.right.Right.{Right}
use Rattle.lwc_types.specs.declared.limits.TheConstants.{MOST_PAGES}
use Rattle.range_map.specs.Kinds.{ranges}
use Rattle.range_map.specs.declared.segment.PageState.{PageState}
use Rattle.range_map.specs.declared.segment.SegmentKind.{SegmentKind}
use Rattle.range_map.specs.declared.segment.SegmentKind.TheVariants.{Own, Common}
use Rattle.cow_space.specs.declared.page_runs.Origin.{Origin}
use Rattle.cow_space.specs.declared.page_runs.Origin.TheVariants.{Absent, CopyOf}
use Rattle.lazy_world.specs.Cells.{HasOwnPages, Row, states_of}
use Rattle.lazy_world.specs.Transfers.{copied_origin}
use Rattle.lazy_world.specs.Origins.{Gift, most_nodes, most_steps}
use Rattle.lazy_world.specs.declared.pieces.PageOrigins.{PageOrigins}
use Rattle.lazy_world.specs.declared.pieces.PageOrigins.TheVariants.{AllOf}
use Rattle.lazy_world.specs.States.{Parts}

-- the place of a group, if it is live
abbrev pub place_of_group : Parts → Name → Option ℕ
place_of_group s g = option_map (λ j. s.size.contexts + j) (fm.get s.groups.map g)

-- what the pages of an item get: shared ones what the context has, once its values have moved; those left out
-- become absent; of copies an item says nothing
abbrev pub item_gift : ℕ → Option Mode → Option Gift
item_gift from None = None
item_gift from (Some Copy) = None
item_gift from (Some Share) = Some (CopyOf from, None)
item_gift from (Some Unmap) = Some (Absent, None)
item_gift from (Some CopyRead) = None

-- where copies of pages of a kind come from: from the context itself, or from their group
abbrev pub kind_origin : Parts → ℕ → SegmentKind → Origin
kind_origin s from Own = CopyOf from
kind_origin s from (Common g) = copied_origin (place_of_group s g)

-- what copies of pages of a state get
abbrev pub state_gift : Parts → ℕ → PageState → Gift
state_gift s from state = (kind_origin s from state.kind, Some state.right)

-- what a page of a clone of the context at a place gets; none where the page stays absent
abbrev pub clone_gift : Parts → List Item → ℕ → ℕ → Option Gift
clone_gift s items from q =
    option_or (item_gift from (mode items (Page q)))
    (option_map (state_gift s from) (states_of (s.rows from) (s.rights from) q))

-- the most free nodes that a copy takes for this number of ranges and items
abbrev pub copy_nodes : ℕ → ℕ
copy_nodes pieces = min 1 pieces + 4 * pieces

-- the most node steps
abbrev pub copy_steps : ℕ → ℕ
copy_steps pieces = 128 * pieces

-- the most free nodes that a change of pages takes for this number of ranges and items
abbrev pub change_nodes : ℕ → ℕ
change_nodes pieces = 9 + 16 * pieces

-- the most node steps
abbrev pub change_steps : ℕ → ℕ
change_steps pieces = 1532 + 3064 * pieces

-- the most free nodes that a place without pages takes for what moves of this number of ranges and items
abbrev pub fill_nodes : ℕ → ℕ
fill_nodes pieces = 5 + 8 * pieces

-- the most node steps
abbrev pub fill_steps : ℕ → ℕ
fill_steps pieces = 128 + 256 * pieces

-- items share no page, leave none out, and copy none read-only
abbrev pub CopiesPages : List Item → Type 0
CopiesPages items = (p : ℕ) → mode_or_copy items (Page p) ≡ Copy

-- the pages of a clone of a place take at most 128 node steps and 4 free nodes for each range of the place and
-- each item, and one free node besides if there is one; those that are all copied and all the place's own are
-- taken whole
pub record AreBounded (rows : ℕ → Row) (rights : ℕ → ℕ → Right) (from : ℕ) (items : List Item)
    (pages : PageOrigins) : Type 0 where
  pub nodes : most_nodes pages ≤ copy_nodes (ranges MOST_PAGES (states_of (rows from) (rights from)) + length items)
  pub steps : most_steps rows rights pages
      ≤ copy_steps (ranges MOST_PAGES (states_of (rows from) (rights from)) + length items)
  pub whole : CopiesPages items → HasOwnPages (rows from) → pages ≡ AllOf from
