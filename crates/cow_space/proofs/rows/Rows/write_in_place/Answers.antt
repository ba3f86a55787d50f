use Rattle.std.proofs.Common.{◌≤◌, arith}
use Rattle.cow_space.specs.declared.rows.Rows.{Rows}
use Rattle.cow_space.specs.Tags.{different, row_tags}
use Rattle.cow_space.proofs.UsedLemmas.{free-used, used-is}
use Rattle.cow_space.specs.RowSeen.{maps, frames_of}
use Rattle.cow_space.proofs.rows.Rows.write_in_place.Goals as goal

within : (w : Rows) → different (row_tags (maps w)) ≤ frames_of w
unfolding maps frames_of
within w =
    let used = used-is w.store.nodes.all w.store.frames w.trees.items w.kept in omega (arith, used, free-used w.store.frames)

pub returns-in_default-clause-within : goal.returns-in_default-clause-within
returns-in_default-clause-within c = within c.args.self.now
