use Rattle.std.proofs.Common.{arith}
use Rattle.lazy_world.specs.Memory.{byte_in}
use Rattle.lazy_world.specs.Seen.{rows}
use Rattle.lazy_world.specs.Worlds.{seen}
use Rattle.lazy_world.proofs.world.PlacedWorld.copy_to.Goals as goal
use Rattle.lwc_types.proofs.Small.{filled_from}

pub returns : goal.returns
returns c =
    filled_from (byte_in (seen c.args.self.now) (rows c.args.self.now.places c.args.place)) c.args.at _ c.loop-k.out c.loop-k.auto.out
    (λ j h. c.loop-k.invariant.0 j (omega (arith, h, c.loop-k-test.false)))
