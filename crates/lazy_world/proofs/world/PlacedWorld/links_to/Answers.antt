use Rattle.std.proofs.Common.{◌∙◌, ap}
use Rattle.fd_table.specs.Slots.{context_of}
use Rattle.lwc_base.specs.Cells.{value_at, value_of}
use Rattle.lwc_base.specs.World.{Context}
use Rattle.lwc_types.specs.declared.key.Key.TheVariants.{Slot}
use Rattle.lazy_world.specs.Worlds.{parts, seen}
use Rattle.lazy_world.proofs.LooseLemmas.{links-by}
use Rattle.lazy_world.proofs.world.PlacedWorld.links_to.Goals as goal

pub returns : goal.returns
unfolding parts value_at
returns c there =
    let w = seen c.args.self.now in
    let found = c.links_at.ensures there in
    links-by w c.args.target c.args.context found.0 found.1
    (ap (λ (x : Context). context_of (value_of w (Slot found.0) (x.cell (Slot found.0)))) c.place.ensures.context ∙ found.2)
