use Rattle.std.proofs.Common.{rules, [], ◌∷◌}
use Rattle.std.specs.Prelude.{nat_lt, not, slice_index}
use Rattle.guest_call.specs.Guest.{slot_refusals}
use Rattle.lwc_guard.specs.Calls.{fuel_rows, is_trapped_by}
use Rattle.lwc_guard.specs.declared.numbers.TheConstants.{MOST_FUEL}
use Rattle.lwc_monitor.proofs.Refused.{plainly}
use Rattle.lwc_monitor.specs.declared.trapping.TrapRefusal.TheVariants.{Plain, Trapped}
use Rattle.lwc_overlay.specs.Named.{link}
use Rattle.lwc_types.specs.declared.refusal.Refusal.TheVariants.{BadRange}
use Rattle.lwc_guard.proofs.calling.fuel_target.Goals as goal

pub returns-in-Err-clause-refused : goal.returns-in-Err-clause-refused
unfolding fuel_rows
returns-in-Err-clause-refused g c =
    let w = g.W.World.seen c.args.world.now in
    plainly w c.args.context (slice_index c.args.regs.now.r 1) c.in-Err.refusal
    ((not (is_trapped_by c.args.traps.now c.args.context (link w c.args.context c.args.regs.now).0), Trapped) ∷ (nat_lt MOST_FUEL (slice_index c.args.regs.now.r 2), Plain BadRange) ∷ [])
    (c.in-Err.ensures.refused [])

pub returns-then-not-is_trapped_by-clause-refused : goal.returns-then-not-is_trapped_by-clause-refused
unfolding fuel_rows link slot_refusals
returns-then-not-is_trapped_by-clause-refused g c = search rules

pub returns-then-regs-from-clause-refused : goal.returns-then-regs-from-clause-refused
unfolding fuel_rows link slot_refusals
returns-then-regs-from-clause-refused g c = search rules

pub returns-clause-passed : goal.returns-clause-passed
unfolding fuel_rows link slot_refusals
returns-clause-passed g c = search rules

pub returns-clause-target : goal.returns-clause-target
unfolding link
returns-clause-target g c = search rules
