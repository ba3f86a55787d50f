-- Who has the value under a key, and how many ranges pages make by who has them.
use Rattle.std.specs.Prelude.{ℕ, zero, suc, ◌&&◌, ◌||◌, if◌then◌else◌, Bool, true, false, not, List, Option, None}
use Rattle.std.specs.Prelude.{Some, count_by, is_some, nat_le, nat_lt}
use Rattle.std.specs.List.{range_with_len}
use Rattle.std.specs.Ordering.{is_eq}
use Rattle.lwc_base.specs.declared.cell.Cell.{Cell}
use Rattle.lwc_base.specs.declared.cell.Cell.TheVariants as cell
use Rattle.lwc_base.specs.declared.item.Item.{Item}
use Rattle.lwc_base.specs.declared.item.Mode.{Mode}
use Rattle.lwc_base.specs.declared.item.Mode.TheVariants.{Copy, CopyRead, Share, Unmap}
use Rattle.lwc_base.specs.Cells.{page_at}
use Rattle.lwc_base.specs.Keys.{ValueOf, is_there}
use Rattle.lwc_base.specs.Modes.{mode, mode_or_copy}
use Rattle.lwc_base.specs.Mapping.{writable_in}
use Rattle.lwc_base.specs.Overlay.{overlaid_right}
use Rattle.lwc_base.specs.Rights.{right_at, same_right}
use Rattle.lwc_base.specs.Sharing.{cloned_right}
use Rattle.lwc_base.specs.World.{World, context}
use Rattle.lwc_types.specs.declared.key.Key.{Key}
use Rattle.lwc_types.specs.declared.key.Key.TheVariants.{Page}
use Rattle.lwc_types.specs.declared.name.Name.{Name}
use Rattle.lwc_types.specs.declared.right.Right.TheVariants.{Write}
use Rattle.lwc_types.specs.Names.{name_cmp}
use Rattle.whole_world.specs.declared.holder.Holder.{Holder}
use Rattle.whole_world.specs.declared.holder.Side.{Side}
use Rattle.whole_world.specs.declared.holder.Holder.TheVariants.{Nobody, Own, Group, NewGroup}

-- who has the value of a cell
abbrev pub holder : {T : Type 0} → Cell T → Holder
holder (cell.Own value) = Own
holder (cell.Common g) = Group g

-- who has the value of a key's cell; nobody has an absent page
abbrev pub holder_of : (k : Key) → Cell (ValueOf k) → Holder
holder_of k (cell.Own value) = if is_there k value then Own else Nobody
holder_of k (cell.Common g) = Group g

-- who has the value of a page of a context
unfoldable pub page_holder : World → Name → ℕ → Holder
page_holder w c p = holder_of (Page p) ((context w c).cell (Page p))

-- who has it once a clone has moved the context's own values of mode share
abbrev pub moved_holder : Mode → Holder → Holder
moved_holder Share Own = NewGroup
moved_holder mode h = h

-- who has a page's value in the context that a clone makes
abbrev pub cloned_holder : Mode → Bool → Holder → Holder
cloned_holder Copy present h = if present then Own else Nobody
cloned_holder Share present h = moved_holder Share h
cloned_holder Unmap present h = Nobody
cloned_holder CopyRead present h = if present then Own else Nobody

-- who has the value of a page of a context after it has been cloned
unfoldable pub holder_after_clone : World → Name → List Item → ℕ → Holder
holder_after_clone w c items p = moved_holder (mode_or_copy items (Page p)) (page_holder w c p)

-- who has it in the clone
unfoldable pub holder_in_clone : World → Name → List Item → ℕ → Holder
holder_in_clone w c items p = cloned_holder (mode_or_copy items (Page p)) (is_some (page_at w c p)) (page_holder w c p)

-- who has a page's value in a context that takes over from another one, by who had it in both
abbrev pub overlaid_holder : Option Mode → Bool → Holder → Holder → Holder
overlaid_holder None present h old = old
overlaid_holder (Some m) present h old = cloned_holder m present h

-- who has it in the context that gets what it takes over
unfoldable pub holder_after_overlay : World → Name → Name → List Item → ℕ → Holder
holder_after_overlay w c d items p =
    overlaid_holder (mode items (Page p)) (is_some (page_at w d p)) (page_holder w d p) (page_holder w c p)

-- who has it once the pages of a range are present or absent
unfoldable pub holder_after_map : World → Name → ℕ → ℕ → Bool → ℕ → Holder
holder_after_map w c from to present p =
    if nat_le from p && nat_lt p to then (if present then Own else Nobody) else page_holder w c p

-- whether two holders are the same
abbrev pub same_holder : Holder → Holder → Bool
same_holder Nobody Nobody = true
same_holder Own Own = true
same_holder NewGroup NewGroup = true
same_holder (Group g) (Group h) = is_eq (name_cmp g h)
same_holder _ _ = false

-- whether a range begins at a page: somebody has it, and not the holder of the page before it
abbrev pub begins_after : Holder → Holder → Bool
begins_after before Nobody = false
begins_after before here = not (same_holder before here)

-- whether anybody has it
abbrev pub is_somebody : Holder → Bool
is_somebody Nobody = false
is_somebody h = true

-- whether a range begins at a page after another page: one begins by who has them, or somebody has the page,
-- and it has not the right of the other one
abbrev pub begins_here : Side → Side → Bool
begins_here before here =
    begins_after before.holder here.holder
    || (is_somebody here.holder && not (same_right before.right here.right))

-- the page before a page; nobody has one before the first
abbrev pub side_before : (ℕ → Side) → ℕ → Side
side_before sides zero = record { holder = Nobody; right = Write }
side_before sides (suc p) = sides p

-- whether a range begins at a page, by its number
abbrev pub begins_at : (ℕ → Side) → ℕ → Bool
begins_at sides p = begins_here (side_before sides p) (sides p)

-- the number of ranges of this number of pages
unfoldable pub count_of_ranges : ℕ → (ℕ → Side) → ℕ
count_of_ranges pages sides = count_by (begins_at sides) (range_with_len 0 pages)

-- what a page of a context is after it has been cloned
unfoldable pub side_after_clone : World → Name → List Item → ℕ → Side
side_after_clone w c items p = record { holder = holder_after_clone w c items p; right = right_at w c p }

-- what it is in the clone
unfoldable pub side_in_clone : World → Name → List Item → ℕ → Side
side_in_clone w c items p =
    record { holder = holder_in_clone w c items p; right = cloned_right w c p (mode_or_copy items (Page p)) }

-- what it is in a context that takes over from another one
unfoldable pub side_after_overlay : World → Name → Name → List Item → ℕ → Side
side_after_overlay w c d items p = record {
  holder = holder_after_overlay w c d items p;
  right = overlaid_right w d p (mode items (Page p)) (right_at w c p);
}

-- what it is once the pages of a range are present or absent
unfoldable pub side_after_map : World → Name → ℕ → ℕ → Bool → ℕ → Side
side_after_map w c from to present p = record {
  holder = holder_after_map w c from to present p;
  right = writable_in from to (context w c).right p;
}
