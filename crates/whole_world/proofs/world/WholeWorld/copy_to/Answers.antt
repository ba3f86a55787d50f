use Rattle.std.proofs.Common.{arith}
use Rattle.lwc_base.specs.Memory.{byte_at}
use Rattle.whole_world.specs.Worlds.{seen}
use Rattle.whole_world.proofs.world.WholeWorld.copy_to.Goals as goal
use Rattle.lwc_types.proofs.Small.{filled_from}

pub returns : goal.returns
returns c =
    filled_from (byte_at (seen c.args.self.now) c.args.context) c.args.at _ c.loop-i.out c.loop-i.auto.out
    (λ k h. c.loop-i.invariant k (omega (arith, c.loop-i-test.false)))
