use Rattle.std.proofs.Common.{◌<◌, ap, arith, length}
use Rattle.std.proofs.lemmas.List.{get_or_read}
use Rattle.lwc_base.specs.World.{nothing_counted}
use Rattle.lwc_types.specs.declared.counters.Counters.{Counters}
use Rattle.lazy_world.specs.States.{world_of}
use Rattle.lazy_world.specs.Worlds.{parts, seen}
use Rattle.lazy_world.proofs.world.PlacedWorld.unnamed.Goals as goal

pub index-requires : goal.index-requires
unfolding seen parts world_of
index-requires c = omega (arith, c.args.self.now.sound.sizes.counts, c.args.self.now.sound.sizes.size.jobs.0, c.args.self.now.counts.ok)

pub returns : goal.returns
unfolding seen parts world_of
returns c =
    let s = parts c.args.self.now in
    let known : 0 < length s.counts = omega (arith, c.args.self.now.sound.sizes.counts, c.args.self.now.sound.sizes.size.jobs.0) in
    ap (λ (m : Counters). record { job = 0; k = m.groups }) (get_or_read s.counts 0 _ known c.index.ensures nothing_counted)
