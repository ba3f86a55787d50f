-- The items that a call of a guest asks for: where they stand, and why they are refused.
use Rattle.std.specs.Prelude.{ℕ, ◌*◌, Bool, not, List, [], ◌∷◌, Option, is_none, nat_lt, unwrap_or}
use Rattle.lwc_base.specs.declared.item.Item.{Item}
use Rattle.lwc_base.specs.Memory.{bytes_for}
use Rattle.lwc_base.specs.World.{World}
use Rattle.lwc_types.specs.declared.name.Name.{Name}
use Rattle.lwc_types.specs.declared.limits.TheConstants.{MOST_ITEMS}
use Rattle.lwc_types.specs.declared.refusal.Refusal.{Refusal}
use Rattle.lwc_types.specs.declared.refusal.Refusal.TheVariants.{TooManyItems, BadAddress, BadMode, BadRange, Overlap}
use Rattle.res_spec.specs.Items.{all_taken, all_within, has_overlap, items_in}
use Rattle.res_spec.specs.declared.items.SpecCall.{SpecCall}
use Rattle.res_spec.specs.declared.items.SpecFault.{SpecFault}
use Rattle.res_spec.specs.declared.items.SpecFault.TheVariants as fault
use Rattle.res_spec.specs.declared.items.TheConstants.{ITEM_BYTES}

-- the bytes of a number of items, from an address on; none if one of them cannot be read
unfoldable pub item_bytes : World → Name → ℕ → ℕ → Option (List ℕ)
item_bytes w c at count = bytes_for w c at (count * ITEM_BYTES)

-- those bytes, if they can be read
abbrev pub asked : World → Name → ℕ → ℕ → List ℕ
asked w c at count = unwrap_or (item_bytes w c at count) []

-- the items that they spell for a call
unfoldable pub items_of : World → Name → SpecCall → ℕ → ℕ → List Item
items_of w c call at count = items_in call (asked w c at count)

-- why the items are refused: the first of these that holds
unfoldable pub item_refusals : World → Name → SpecCall → ℕ → ℕ → List (Bool × Refusal)
item_refusals w c call at count =
    (nat_lt MOST_ITEMS count, TooManyItems)
    ∷ (is_none (item_bytes w c at count), BadAddress)
    ∷ (not (all_taken call (asked w c at count)), BadMode)
    ∷ (not (all_within w.size.pages (items_of w c call at count)), BadRange)
    ∷ (has_overlap (items_of w c call at count), Overlap)
    ∷ []

-- the refusal of a fault of the items
abbrev pub refusal_of : SpecFault → Refusal
refusal_of fault.BadMode = BadMode
refusal_of fault.BadRange = BadRange
refusal_of fault.Overlap = Overlap
