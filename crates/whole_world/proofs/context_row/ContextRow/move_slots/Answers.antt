use Rattle.std.proofs.Common.{arith}
use Rattle.lwc_types.specs.declared.key.Kind.TheVariants as kind
use Rattle.whole_world.specs.Rows.{group_of}
use Rattle.whole_world.proofs.Moves.{context_gives, group_takes, not_below}
use Rattle.whole_world.proofs.Worlds.{still_whole, still_whole_group}
use Rattle.whole_world.proofs.context_row.ContextRow.move_slots.Goals as goal

pub move_key-requires-clause-place : goal.move_key-requires-clause-place
move_key-requires-clause-place c = omega (arith, c.loop-n.invariant.whole.slots, c.loop-n-test.true)

pub move_key-requires-clause-group_place : goal.move_key-requires-clause-group_place
move_key-requires-clause-group_place c = omega (arith, c.loop-n.invariant.whole_group.slots, c.loop-n-test.true)

pub loop-n-preserved : goal.loop-n-preserved
loop-n-preserved c =
    let before = c.loop-n.invariant in
    let moves = c.move_key.ensures in
    record {
      whole = still_whole _ _ _ before.whole moves.size;
      whole_group = still_whole_group _ _ _ before.whole_group moves.group_size;
      context = context_gives kind.Slot c.loop-n.n _ _ _ _ _ (group_of c.args.group.now) _ (not_below _) before.context before.group c.mode_or_copy.ensures _ moves.context;
      group = group_takes kind.Slot c.loop-n.n _ _ _ _ _ (group_of c.args.group.now) _ (not_below _) before.context before.group c.mode_or_copy.ensures _ moves.group;
    }
