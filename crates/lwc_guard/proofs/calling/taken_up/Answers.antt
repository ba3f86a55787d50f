use Rattle.std.proofs.Common.{[], ap, sym}
use Rattle.std.specs.Option.{option_and_then}
use Rattle.lwc_guard.specs.Calls.{held_by, taken_up}
use Rattle.lwc_monitor.proofs.Refused.{unnamed}
use Rattle.lwc_guard.proofs.calling.taken_up.Goals as goal

pub returns-in_default-clause-found : goal.returns-in_default-clause-found
unfolding taken_up
returns-in_default-clause-found g c =
    sym (ap (option_and_then (held_by c.args.traps.now c.args.guards.now c.args.thread_number c.args.context))
    (unnamed (g.W.World.seen c.args.world.now) c.args.context c.args.regs.now c.in_default.field-0 (c.in_default.ensures.refused [])))
