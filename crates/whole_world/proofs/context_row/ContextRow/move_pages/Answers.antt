use Rattle.std.proofs.Common.{arith}
use Rattle.lwc_types.specs.declared.key.Kind.TheVariants as kind
use Rattle.whole_world.specs.Rows.{group_of}
use Rattle.whole_world.proofs.Moves.{context_gives, group_takes, not_below}
use Rattle.whole_world.proofs.Worlds.{still_whole, still_whole_group}
use Rattle.whole_world.proofs.context_row.ContextRow.move_pages.Goals as goal

pub move_key-requires-clause-place : goal.move_key-requires-clause-place
move_key-requires-clause-place c = omega (arith, c.loop-p.invariant.whole.pages, c.loop-p-test.true)

pub move_key-requires-clause-group_place : goal.move_key-requires-clause-group_place
move_key-requires-clause-group_place c = omega (arith, c.loop-p.invariant.whole_group.pages, c.loop-p-test.true)

pub loop-p-preserved : goal.loop-p-preserved
loop-p-preserved c =
    let before = c.loop-p.invariant in
    let moves = c.move_key.ensures in
    record {
      whole = still_whole _ _ _ before.whole moves.size;
      whole_group = still_whole_group _ _ _ before.whole_group moves.group_size;
      context = context_gives kind.Page c.loop-p.p _ _ _ _ _ (group_of c.args.group.now) _ (not_below _) before.context before.group c.mode_or_copy.ensures _ moves.context;
      group = group_takes kind.Page c.loop-p.p _ _ _ _ _ (group_of c.args.group.now) _ (not_below _) before.context before.group c.mode_or_copy.ensures _ moves.group;
    }
