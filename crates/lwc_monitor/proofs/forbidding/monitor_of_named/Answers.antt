use Rattle.std.proofs.Common.{[], ap, sym}
use Rattle.std.specs.FinMap as fm
use Rattle.std.specs.Option.{option_and_then}
use Rattle.lwc_monitor.proofs.Refused.{unnamed}
use Rattle.lwc_monitor.proofs.forbidding.monitor_of_named.Goals as goal

pub returns-in-Err : goal.returns-in-Err
returns-in-Err g c =
    sym (ap (option_and_then (fm.get c.args.traps.now)) (unnamed (g.W.World.seen c.args.world.now) c.args.context c.args.regs.now c.in-Err.field-0 (c.in-Err.ensures.refused [])))
