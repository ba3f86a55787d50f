use Rattle.std.proofs.Common.{rules, [], ◌∷◌, is_none}
use Rattle.lwc_base.specs.Slots.{lowest_empty}
use Rattle.lwc_types.specs.declared.refusal.Refusal.TheVariants.{NoSlotThere}
use Rattle.lwc_switch.specs.Switch.{refusals, target}
use Rattle.lwc_switch.proofs.switching.allowed.Goals as goal

pub returns-in_err-target-clause-refused : goal.returns-in_err-target-clause-refused
unfolding refusals
returns-in_err-target-clause-refused g c =
    let w = g.W.World.seen c.args.world.now in
    let refused = c.in_err-target.ensures.refused ((is_none (lowest_empty w (target w c.args.context c.args.regs.now)), NoSlotThere) ∷ []) in
    search rules
