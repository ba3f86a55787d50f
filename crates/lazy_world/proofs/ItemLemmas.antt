-- Items that share nothing, and items that name no slot.
use Rattle.std.proofs.Common.{◌≡◌, ◌≢◌, ℕ, ◌∙◌, Bool, true, false, cond, List, refl, sym, ap, Option, Some, None}
use Rattle.std.specs.Prelude.{◌||◌, not, unwrap_or}
use Rattle.std.specs.Int.Bits.{bit_or}
use Rattle.std.proofs.lemmas.Bool.{false≢true}
use Rattle.lwc_base.specs.declared.cell.Cell.TheVariants.{Common, Own}
use Rattle.lwc_base.specs.declared.descriptor.Descriptor.TheVariants.{Empty}
use Rattle.lwc_base.specs.declared.item.Item.{Item}
use Rattle.lwc_base.specs.declared.item.Mode.{Mode}
use Rattle.lwc_base.specs.declared.item.Mode.TheVariants.{Copy, Share}
use Rattle.lwc_base.specs.Capabilities.{has_bit}
use Rattle.lwc_base.specs.Modes.{mode}
use Rattle.lwc_base.specs.Sharing.{needs_group}
use Rattle.lwc_base.specs.World.{World}
use Rattle.lwc_types.specs.declared.key.Key.{Key}
use Rattle.lwc_types.specs.declared.key.Key.TheVariants.{Slot}
use Rattle.lwc_types.specs.declared.name.Name.{Name}
use Rattle.fd_table.specs.Slots as slots
use Rattle.access_cap.proofs.Bits.{has_bit-or}
use Rattle.lazy_world.specs.Cells.{Row}
use Rattle.lazy_world.specs.Transfers.{Gives, moves, transferred_cell, transferred_row}
use Rattle.lazy_world.specs.declared.transfer.Transfer.{Transfer}
use Rattle.lazy_world.specs.declared.transfer.Transfer.TheVariants.{Mark, Move, Clone, Overlay}
use Rattle.lazy_world.proofs.AddLemmas.{no_slot}
use Rattle.lazy_world.proofs.MoveLemmas.{moves-share}
use Rattle.lazy_world.proofs.NeedLemmas.{as_mode}
use Rattle.lwc_base.proofs.Needs.{not_needed}

share_mode : (o : Option Mode) → unwrap_or o Copy ≡ Share → o ≡ Some Share
share_mode None is = cc
share_mode (Some m) is = ap Some is

-- what moves is shared, so nothing moves where it does not move if it is shared
pub settled_by : (items : List Item) (k : Key) (row : Row) → (mode items k ≡ Some Share → moves items k row ≡ false) → moves items k row ≡ false
settled_by items k row told = at (moves items k row) refl
  where
    at : (b : Bool) → moves items k row ≡ b → moves items k row ≡ false
    at true is = told (share_mode (mode items k) (moves-share (unwrap_or (mode items k) Copy) k (row k) is))
    at false is = is

-- where nothing is shared no group is needed
pub none-shared : (w : World) (c : Name) (items : List Item) → ((k : Key) → mode items k ≢ Some Share) → needs_group w c items ≡ false
none-shared w c items none = not_needed w c items (λ k inside is. absurd (none k (share_mode (mode items k) (sym (as_mode items k) ∙ is))))

-- a context is marked as it is where none of its values moves
pub unmoved-same : (w : World) (g : Name) (items : List Item) (row old : Row) → ((k : Key) → moves items k row ≡ false) → transferred_row w (Mark g) items row old ≡ row
unmoved-same w g items row old none = λ e k. ap (λ b. cond b (Common g) (row k)) (none k) e

nothing_transferred : (w : World) (transfer : Transfer) (n : ℕ) → transferred_cell w transfer None (Slot n) (Own Empty) (Own Empty) ≡ Own Empty
nothing_transferred w (Mark g) n = refl
nothing_transferred w Move n = refl
nothing_transferred w (Clone g) n = refl
nothing_transferred w (Overlay g) n = refl

unfilled : (cell : _) (n : ℕ) (b : Bool) → b ≡ slots.is_filled cell → b ≡ false → cell ≡ Own Empty
unfilled cell n b is off = no_slot cell n (ap not (sym is ∙ off))

neither : (a b : Bool) → (a || b) ≡ false → (a ≡ false) × (b ≡ false)
neither true b is = absurd (false≢true (sym is))
neither false b is = (refl, is)

-- a slot that neither place has filled, and that no item names, is as it was
pub slot_stays : (w : World) (count : ℕ) (rows : ℕ → Row) (items : List Item) (transfer : Transfer) (from to n a b : ℕ) → mode items (Slot n) ≡ None →
    has_bit a n ≡ slots.is_filled (rows from (Slot n)) → has_bit b n ≡ slots.is_filled (rows to (Slot n)) → has_bit (bit_or a b) n ≡ false →
    Gives count rows to (Slot n) (transferred_row w transfer items (rows from) (rows to) (Slot n)) None
slot_stays w count rows items transfer from to n a b none here there off =
    let both = neither (has_bit a n) (has_bit b n) (sym (has_bit-or a b n) ∙ off) in
    let empty = unfilled (rows from (Slot n)) n (has_bit a n) here both.0 in
    let old = unfilled (rows to (Slot n)) n (has_bit b n) there both.1 in
    record { cell = old ∙ sym ((λ e. transferred_cell w transfer (none e) (Slot n) (empty e) (old e)) ∙ nothing_transferred w transfer n); can = tt }
