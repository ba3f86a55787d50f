use Rattle.std.proofs.Common.{rules}
use Rattle.lwc_create.specs.Create.{refusals, room_refusals, items_of}
use Rattle.lwc_create.proofs.creating.allowed.Goals as goal

pub returns-in_err-items_for-clause-refused : goal.returns-in_err-items_for-clause-refused
unfolding refusals
returns-in_err-items_for-clause-refused g c =
    let w = g.W.World.seen c.args.world.now in
    let refused = c.in_err-items_for.ensures.refused (room_refusals w c.args.context c.args.job (items_of w c.args.context c.args.regs.now)) in
    search rules

pub returns-clause-refused : goal.returns-clause-refused
unfolding refusals
returns-clause-refused g c =
    let w = g.W.World.seen c.args.world.now in
    let passed = c.in_ok-items_for.ensures.passed (room_refusals w c.args.context c.args.job (items_of w c.args.context c.args.regs.now)) in
    search rules

pub returns-clause-passed : goal.returns-clause-passed
unfolding refusals
returns-clause-passed g c =
    let w = g.W.World.seen c.args.world.now in
    let passed = c.in_ok-items_for.ensures.passed (room_refusals w c.args.context c.args.job (items_of w c.args.context c.args.regs.now)) in
    search rules
