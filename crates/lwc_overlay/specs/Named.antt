-- What the two calls name: a context by the slot in register 1, and items by registers 2 and 3.
use Rattle.std.specs.Prelude.{◌++◌, Bool, List, slice_index, unwrap_or}
use Rattle.guest_call.specs.Asked as asked
use Rattle.guest_call.specs.Asked.{item_refusals}
use Rattle.guest_call.specs.Guest.{descriptor_for, link_of, slot_refusals}
use Rattle.lwc_base.specs.declared.answer.Answer.{Answer}
use Rattle.lwc_base.specs.declared.answer.Answer.TheVariants.{Done, Refused}
use Rattle.lwc_base.specs.declared.descriptor.Cap.{Cap}
use Rattle.lwc_base.specs.declared.item.Item.{Item}
use Rattle.lwc_base.specs.Capabilities.{empty_cap}
use Rattle.lwc_base.specs.World.{World}
use Rattle.lwc_types.specs.declared.name.Name.{Name}
use Rattle.lwc_types.specs.declared.refusal.Refusal.{Refusal}
use Rattle.lwc_types.specs.declared.regs.Regs.{Regs}
use Rattle.res_spec.specs.declared.items.SpecCall.{SpecCall}

-- the context that the slot has a descriptor of, and the capability; the caller's without a key if it has
-- none
unfoldable pub link : World → Name → Regs → Name × Cap
link w c regs = unwrap_or (link_of (descriptor_for w c (slice_index regs.r 1))) (c, empty_cap)

-- the items that the caller asks for
abbrev pub items_of : World → Name → SpecCall → Regs → List Item
items_of w c call regs = asked.items_of w c call (slice_index regs.r 2) (slice_index regs.r 3)

-- the table of a call: why the slot or the items are refused, and then these rows
abbrev pub refusals_before : World → Name → SpecCall → Regs → List (Bool × Refusal) → List (Bool × Refusal)
refusals_before w c call regs rows =
    slot_refusals w c (slice_index regs.r 1)
    ++ (item_refusals w c call (slice_index regs.r 2) (slice_index regs.r 3) ++ rows)

-- a fact, if the answer is a refusal
abbrev pub IfRefused : Answer → Type 0 → Type 0
IfRefused (Done regs) P = Unit {0}
IfRefused (Refused refusal) P = P
