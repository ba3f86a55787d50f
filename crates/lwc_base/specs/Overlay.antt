-- What a context takes over from another one.
use Rattle.std.specs.Prelude.{◌≡◌, ℕ, List, Option, None, Some, true}
use Rattle.lwc_base.specs.declared.cell.Cell.{Cell}
use Rattle.lwc_base.specs.declared.item.Item.{Item}
use Rattle.lwc_base.specs.declared.item.Mode.{Mode}
use Rattle.lwc_base.specs.Fresh.{IsFresh}
use Rattle.lwc_base.specs.Keys.{ValueOf}
use Rattle.lwc_base.specs.Modes.{mode}
use Rattle.lwc_base.specs.Ranges.{ranges_of}
use Rattle.lwc_base.specs.Sharing.{cloned_cell, cloned_right, share}
use Rattle.lwc_base.specs.Sound.{HasItsGroups}
use Rattle.lwc_base.specs.World.{World, Context, change_context, is_live}
use Rattle.lwc_types.specs.declared.key.Key.{Key}
use Rattle.lwc_types.specs.declared.key.Key.TheVariants.{Page}
use Rattle.lwc_types.specs.declared.name.Name.{Name}
use Rattle.lwc_types.specs.declared.right.Right.{Right}

-- a cell after an overlay: by the mode of the item that names its key it is what a clone would get there, and
-- where no item does it stays
abbrev pub overlaid_cell : World → Name → (k : Key) → Option Mode → Cell (ValueOf k) → Cell (ValueOf k)
overlaid_cell w d k None cell = cell
overlaid_cell w d k (Some m) cell = cloned_cell w d k m

-- the right of a page after an overlay, by the same rule
abbrev pub overlaid_right : World → Name → ℕ → Option Mode → Right → Right
overlaid_right w d p None right = right
overlaid_right w d p (Some m) right = cloned_right w d p m

-- a context that has taken over from another one what items name
abbrev pub with_overlay : World → Name → List Item → Context → Context
with_overlay w d items x = record x {
  cell = λ k. overlaid_cell w d k (mode items k) (x.cell k);
  right = λ p. overlaid_right w d p (mode items (Page p)) (x.right p);
}

-- a context takes over from another one what items name: first the values under share move, for a job
unfoldable pub overlay : World → Name → Name → ℕ → List Item → World
overlay w c d job items = let s = share w d job items in change_context s c (with_overlay s d items)

-- the number of ranges of the context that an overlay takes from, and of the one that gets it, afterwards
unfoldable pub ranges_after_overlay : World → Name → Name → ℕ → List Item → ℕ × ℕ
ranges_after_overlay w c d job items = let v = overlay w c d job items in (ranges_of v d, ranges_of v c)

-- a live context has taken over from a live one, in a fresh world that has the groups that its cells name
pub record IsOverlay (before after : World) (to from : Name) (items : List Item) : Type 0 where
  pub job : ℕ
  pub fresh : IsFresh before
  pub groups : HasItsGroups before
  pub taker : is_live before to ≡ true
  pub giver : is_live before from ≡ true
  pub made : after ≡ overlay before to from job items
