use Rattle.lwc_base.proofs.Facts.{changes}
use Rattle.world_suite.proofs.Begun.{stays}
use Rattle.world_suite.proofs.calls.unmap_first.Goals as goal

pub bytes_at_end-requires-clause-live : goal.bytes_at_end-requires-clause-live
bytes_at_end-requires-clause-live g c κs within =
    let names = (changes.unmapped (g.W.World.seen c.args.world.now) c.args.context 0 1).names in
    (stays _ _ _ _ _ c.in_ok-unmap.ensures.unmapped (names.live c.args.context) names.size c.requires).0

pub bytes_at_end-requires-clause-pages : goal.bytes_at_end-requires-clause-pages
bytes_at_end-requires-clause-pages g c κs within =
    let names = (changes.unmapped (g.W.World.seen c.args.world.now) c.args.context 0 1).names in
    (stays _ _ _ _ _ c.in_ok-unmap.ensures.unmapped (names.live c.args.context) names.size c.requires).1
