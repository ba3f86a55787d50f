-- The call that takes keys from a capability: its refusals in order, and what it does where none holds.
use Rattle.std.specs.Prelude.{◌≡◌, ◌<◌, Bool, List, [], Option, None, Some, slice_index}
use Rattle.guest_call.specs.Guest.{with_answer}
use Rattle.lwc_base.specs.declared.answer.Answer.{Answer}
use Rattle.lwc_base.specs.declared.answer.Answer.TheVariants.{Done, Refused}
use Rattle.lwc_base.specs.declared.descriptor.Cap.{Cap}
use Rattle.lwc_base.specs.declared.descriptor.Descriptor.TheVariants.{Ctx}
use Rattle.lwc_base.specs.Capabilities.{restricted}
use Rattle.lwc_base.specs.Cells.{put_slot, slot_at}
use Rattle.lwc_base.specs.Modes.{IsSpec}
use Rattle.lwc_base.specs.Refusals.{first_refusal}
use Rattle.lwc_base.specs.World.{World}
use Rattle.lwc_types.specs.declared.key.TheConstants.{SLOTS}
use Rattle.lwc_types.specs.declared.name.Name.{Name}
use Rattle.lwc_types.specs.declared.refusal.Refusal.{Refusal}
use Rattle.lwc_types.specs.declared.regs.Regs.{Regs}
use Rattle.lwc_overlay.specs.Named.{items_of, link, refusals_before}
use Rattle.res_spec.specs.declared.items.SpecCall.TheVariants.{Restrict}

-- why the call is refused: the first of these that holds
unfoldable pub refusals : World → Name → Regs → List (Bool × Refusal)
refusals w c regs = refusals_before w c Restrict regs []

-- the slot's capability has lost the keys that no item names
abbrev pub narrowed : World → Name → Regs → World
narrowed w c regs =
    let l = link w c regs in
    put_slot w c (slice_index regs.r 1) (Ctx l.0 (restricted l.1 (items_of w c Restrict regs)))

-- the end of the call: a refusal changes nothing; else the capability is restricted, and the answer is 0
abbrev pub ended : World → Name → Regs → Option Refusal → Answer × World
ended w c regs (Some refusal) = (Refused refusal, w)
ended w c regs None = (Done (with_answer regs 0), narrowed w c regs)

-- the call that takes keys from a capability: the answer, and the world afterwards
unfoldable pub restrict : World → Name → Regs → Answer × World
restrict w c regs = ended w c regs (first_refusal (refusals w c regs))

-- an accepted restriction: a slot that had a descriptor of a context has one with fewer keys of it
pub record IsRestriction (w v : World) (c : Name) (regs : Regs) : Type 0 where
  pub giver : Name
  pub cap : Cap
  pub within : slice_index regs.r 1 < SLOTS
  pub had : slot_at w c (slice_index regs.r 1) ≡ Ctx giver cap
  pub spec : IsSpec w.size.pages (items_of w c Restrict regs)
  pub made : v ≡
      put_slot w c (slice_index regs.r 1) (Ctx giver (restricted cap (items_of w c Restrict regs)))
