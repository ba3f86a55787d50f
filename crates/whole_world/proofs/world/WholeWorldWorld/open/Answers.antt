use Rattle.whole_world.specs.Worlds.{seen}
use Rattle.whole_world.proofs.Opening.{nothing_counted_yet, sound-opened}
use Rattle.whole_world.proofs.world.WholeWorldWorld.open.Goals as goal

pub invariant_of-result : goal.invariant_of-result
invariant_of-result c = record {
  sound = sound-opened c.args.world_size.now _ _ _ c.new.ensures c.new-2.ensures c.requires (search Rattle.std.proofs.Common.rules) c.in_ok-nothing_counted.ensures.nothing;
}

pub returns : goal.returns
unfolding seen
returns c = record { opened = nothing_counted_yet _ _ _ _ c.new.ensures c.new-2.ensures c.in_ok-nothing_counted.ensures.nothing }
