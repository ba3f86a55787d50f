use Rattle.std.proofs.Common.{rules, []}
use Rattle.guest_call.specs.Guest.{slot_refusals}
use Rattle.lwc_monitor.proofs.Refused.{plain-target}
use Rattle.lwc_monitor.specs.Traps.{trap_rows}
use Rattle.lwc_overlay.specs.Named.{link}
use Rattle.lwc_monitor.proofs.trapping.trap_target.Goals as goal

pub returns-in-Err-clause-refused : goal.returns-in-Err-clause-refused
returns-in-Err-clause-refused g c = plain-target c.args.traps.now (g.W.World.seen c.args.world.now) c.args.context c.args.regs.now c.in-Err.refusal (c.in-Err.ensures.refused [])

pub returns-then-not-grants_kinds-clause-refused : goal.returns-then-not-grants_kinds-clause-refused
unfolding trap_rows link slot_refusals
returns-then-not-grants_kinds-clause-refused g c = search rules

pub returns-then-is_some-clause-refused : goal.returns-then-is_some-clause-refused
unfolding trap_rows link slot_refusals
returns-then-is_some-clause-refused g c = search rules

pub returns-then-eq-clause-refused : goal.returns-then-eq-clause-refused
unfolding trap_rows link slot_refusals
returns-then-eq-clause-refused g c = search rules

pub returns-clause-passed : goal.returns-clause-passed
unfolding trap_rows link slot_refusals
returns-clause-passed g c = search rules

pub returns-clause-target : goal.returns-clause-target
unfolding link
returns-clause-target g c = search rules
