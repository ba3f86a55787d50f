-- What the call does by the first refusal that holds.
use Rattle.std.proofs.Common.{◌≡◌, ℕ, List, Some, None, ap, refl}
use Rattle.std.specs.Prelude.{unwrap_or}
use Rattle.lwc_base.specs.declared.answer.Answer.TheVariants.{Done, Refused}
use Rattle.lwc_base.specs.declared.descriptor.Descriptor.TheVariants.{Ctx}
use Rattle.lwc_base.specs.declared.item.Item.{Item}
use Rattle.lwc_base.specs.Capabilities.{full_cap}
use Rattle.lwc_base.specs.Cells.{put_slot}
use Rattle.lwc_base.specs.Refusals.{first_refusal}
use Rattle.lwc_base.specs.Sharing.{clone_context}
use Rattle.lwc_base.specs.Slots.{lowest_empty}
use Rattle.lwc_base.specs.World.{World, next_context}
use Rattle.lwc_types.specs.declared.name.Name.{Name}
use Rattle.lwc_types.specs.declared.refusal.Refusal.{Refusal}
use Rattle.lwc_types.specs.declared.regs.Regs.{Regs}
use Rattle.lwc_create.specs.Create.{after_call, create, ended, items_of, no_caller, refusals}

-- the call where a row holds
pub refused_call : (w : World) (c : Name) (job : ℕ) (regs : Regs) (refusal : Refusal) → first_refusal (refusals w c job regs) ≡ Some refusal →
    create w c job regs ≡ (Refused refusal, w)
unfolding create
refused_call w c job regs refusal e = ap (ended w c job regs (unwrap_or (lowest_empty w c) 0)) e

-- the call where none holds
pub done_call : (w : World) (c : Name) (job : ℕ) (regs : Regs) (items : List Item) (slot : ℕ) → first_refusal (refusals w c job regs) ≡ None →
    items ≡ items_of w c regs → lowest_empty w c ≡ Some slot →
    create w c job regs
    ≡ (Done (after_call regs slot), put_slot (clone_context w c job items (after_call regs no_caller)) c slot (Ctx (next_context w job) (full_cap w.size.pages)))
unfolding create
done_call w c job regs items slot e asked lowest = rw (asked, e, lowest) refl

-- the lemmas of the call
pub ruleset call_is = (refused_call, done_call)
