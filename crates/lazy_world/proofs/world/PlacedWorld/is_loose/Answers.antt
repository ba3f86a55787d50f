use Rattle.std.proofs.Common.{◌∙◌, ap, sym}
use Rattle.fd_table.specs.Slots.{context_of}
use Rattle.lwc_base.specs.Cells.{value_at, value_of}
use Rattle.lwc_base.specs.World.{Context}
use Rattle.lwc_types.specs.declared.key.Key.TheVariants.{Slot}
use Rattle.lazy_world.specs.Worlds.{parts, seen}
use Rattle.lazy_world.proofs.LooseLemmas.{links-slot, unlinked, unreached}
use Rattle.lazy_world.proofs.world.PlacedWorld.is_loose.Goals as goal

pub returns : goal.returns
unfolding seen parts value_at
returns c there =
    let w = seen c.args.self.now in
    record {
      live = c.requires.live;
      loose = unreached w c.args.roots.now c.args.context (sym c.is_among.ensures ∙ c.if-is_among.false)
          (λ d live link. unlinked (parts c.args.self.now) c.args.context (c.may_name.ensures c.if-may_name.false) d live link);
      ends = λ d link.
          let slot = links-slot w c.args.context d link in
          c.has_all_near.ensures there slot.0 d slot.1
          (ap (λ (x : Context). context_of (value_of w (Slot slot.0) (x.cell (Slot slot.0)))) (sym c.place.ensures.context) ∙ slot.2);
    }
