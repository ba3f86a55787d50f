use Rattle.std.proofs.Common.{◌∙◌, arith}
use Rattle.lwc_base.proofs.Facts.{changes}
use Rattle.world_suite.proofs.Begun.{stays}
use Rattle.world_suite.proofs.calls.overlay_itself.Goals as goal

pub two_bytes-bytes-requires-clause-live : goal.two_bytes-bytes-requires-clause-live
two_bytes-bytes-requires-clause-live g c κs within =
    let names = (changes.overlaid (g.W.World.seen c.args.world.now) c.args.context c.args.context 1 c.second_page-spec.result).names in
    let shared = changes.shared (g.W.World.seen c.args.world.now) c.args.context 1 c.second_page-spec.result in
    (stays _ _ _ _ _ c.in_ok-overlay.ensures.overlaid (names.live c.args.context ∙ shared.live c.args.context) (names.size ∙ shared.size) c.requires).0

pub two_bytes-bytes-requires-clause-within : goal.two_bytes-bytes-requires-clause-within
two_bytes-bytes-requires-clause-within g c κs within =
    let names = (changes.overlaid (g.W.World.seen c.args.world.now) c.args.context c.args.context 1 c.second_page-spec.result).names in
    let shared = changes.shared (g.W.World.seen c.args.world.now) c.args.context 1 c.second_page-spec.result in
    let pages = (stays _ _ _ _ _ c.in_ok-overlay.ensures.overlaid (names.live c.args.context ∙ shared.live c.args.context) (names.size ∙ shared.size) c.requires).1 in
    omega (arith, pages)
