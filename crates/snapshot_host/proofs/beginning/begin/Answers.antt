use Rattle.std.proofs.Common.{◌+◌, arith}
use Rattle.snapshot_host.proofs.CopyRanges.{ranges_copied}
use Rattle.snapshot_host.proofs.beginning.begin.Goals as goal

pub clone_context-requires-clause-few : goal.clone_context-requires-clause-few
clone_context-requires-clause-few g c =
    let w = g.W.World.seen c.args.world.now in
    let counts = ranges_copied w c.args.home (c.from.result + 1) c.requires.groups c.requires.live in
    rw c.empty.ensures (omega (arith, counts.0, c.requires.few), omega (arith, counts.1, c.requires.few))
