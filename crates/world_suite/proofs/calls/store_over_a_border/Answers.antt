use Rattle.std.proofs.Common.{arith}
use Rattle.lwc_base.proofs.Stored.{is_done}
use Rattle.lwc_base.proofs.Facts.{changes}
use Rattle.world_suite.proofs.Begun.{stays}
use Rattle.world_suite.proofs.calls.store_over_a_border.Goals as goal

pub bytes-are_there-requires-clause-live : goal.bytes-are_there-requires-clause-live
bytes-are_there-requires-clause-live g c =
    let after = (is_done _ _ _ _ (g.W.World.seen c.store.new.self) c.in_ok-store.ensures.done).after in
    let stored = changes.stored (g.W.World.seen c.args.world.now) c.args.context 1 _ in
    (stays _ _ _ _ _ after (stored.live c.args.context) stored.size c.requires).0

pub bytes-are_there-requires-clause-within : goal.bytes-are_there-requires-clause-within
bytes-are_there-requires-clause-within g c =
    let after = (is_done _ _ _ _ (g.W.World.seen c.store.new.self) c.in_ok-store.ensures.done).after in
    let stored = changes.stored (g.W.World.seen c.args.world.now) c.args.context 1 _ in
    let pages = (stays _ _ _ _ _ after (stored.live c.args.context) stored.size c.requires).1 in
    omega (arith, pages)
