use Rattle.std.proofs.Common.{◌∙◌, ap, arith}
use Rattle.guest_image.proofs.Lifted.{most_pages}
use Rattle.kernel_core.proofs.Building.{first_world, slot_put}
use Rattle.kernel_core.specs.Start.{first_slot}
use Rattle.kernel_core.proofs.starting.put_slot.Goals as goal

pub set_slot-requires-clause-live : goal.set_slot-requires-clause-live
set_slot-requires-clause-live g c =
    (first_world _ c.requires.image _ _ _ _ c.requires.before (omega (arith, c.requires.image.page_count, most_pages c.args.image.now.form))).live

pub returns : goal.returns
returns g c =
    slot_put _ c.requires.image _ _ _ _ _ _ c.requires.before
    (c.first_slot.ensures ∙ ap (λ slots. first_slot slots c.args.slot) c.as_slice.ensures) c.set_slot.ensures.put
