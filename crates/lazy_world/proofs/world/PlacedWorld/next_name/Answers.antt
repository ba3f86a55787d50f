use Rattle.std.proofs.Common.{◌<◌, arith, ap, length}
use Rattle.lwc_base.specs.World.{nothing_counted}
use Rattle.lwc_types.specs.declared.counters.Counters.{Counters}
use Rattle.lazy_world.specs.States.{world_of}
use Rattle.lazy_world.specs.Worlds.{parts, seen}
use Rattle.std.proofs.lemmas.List.{get_or_read}
use Rattle.lazy_world.proofs.world.PlacedWorld.next_name.Goals as goal

pub index-requires : goal.index-requires
unfolding seen parts world_of
index-requires c = omega (arith, c.args.self.now.sound.sizes.counts, c.requires, c.args.self.now.counts.ok)

pub returns : goal.returns
unfolding seen parts world_of
returns c =
    let s = parts c.args.self.now in
    let known : c.args.job < length s.counts = omega (arith, c.args.self.now.sound.sizes.counts, c.requires) in
    ap (λ (n : Counters). record { job = c.args.job; k = n.contexts }) (get_or_read s.counts c.args.job _ known c.index.ensures nothing_counted)
