use Rattle.std.proofs.Common.{arith, ap}
use Rattle.lwc_types.specs.declared.key.Key.TheVariants.{Page}
use Rattle.lazy_world.specs.Transfers.{given_or}
use Rattle.lazy_world.specs.Seen.{count, rows}
use Rattle.lazy_world.specs.States.{world_of}
use Rattle.lazy_world.specs.Worlds.{parts, seen}
use Rattle.lazy_world.proofs.PastLemmas.{origin-transferred}
use Rattle.lazy_world.proofs.world.PlacedWorld.origins.Goals as goal

pub returns-clause-row : goal.returns-clause-row
unfolding seen world_of parts
returns-clause-row c =
    let w = c.args.self.now in
    let pages = c.page_origins.ensures in
    origin-transferred (seen w) w.size.pages (count w.places) c.args.spec.now c.args.transfer (rows w.places) c.args.from c.args.to
    (record { pages = c.page_origins.new.pages; slots = c.slot_origins.new.origins; uid = c.uid_origin-origins.result }) w.sound.sizes.size.pages.1 (omega (arith, c.slot_origins.ensures.long))
    c.requires.within (w.sound.past c.args.from) (w.sound.past c.args.to) pages.gives
    (λ q high. ap (given_or (rows w.places) (Page q) (rows w.places c.args.to (Page q))) (pages.past q high)) c.slot_origins.ensures.gives c.uid_origin-origins.ensures

pub returns-clause-given : goal.returns-clause-given
returns-clause-given c = record { pages = c.page_origins.ensures.given; slots = λ n low. (c.slot_origins.ensures.gives n low).can; uid = c.uid_origin-origins.ensures.can }
