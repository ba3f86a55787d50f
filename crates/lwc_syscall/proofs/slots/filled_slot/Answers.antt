use Rattle.std.proofs.Common.{subst, sym}
use Rattle.lwc_base.specs.Channels.{IsInRange}
use Rattle.lwc_syscall.proofs.Filled.{found_in_range}
use Rattle.lwc_base.proofs.InRange.{files-slot_at}
use Rattle.lwc_syscall.proofs.slots.filled_slot.Goals as goal

pub returns-in_default-clause-range : goal.returns-in_default-clause-range
returns-in_default-clause-range g c io files =
    let w = g.W.World.seen c.args.world.now in
    subst (IsInRange io) (sym c.descriptor_for.ensures)
    (found_in_range io w c.args.slots c.args.number (files-slot_at io w c.args.slots c.args.number c.requires files))
