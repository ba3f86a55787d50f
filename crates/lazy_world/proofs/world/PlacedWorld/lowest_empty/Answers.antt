use Rattle.std.proofs.Common.{◌∙◌, ap, sym}
use Rattle.std.specs.List.{find, range_with_len}
use Rattle.lwc_base.specs.Cells.{value_at, value_of}
use Rattle.lwc_base.specs.Slots.{lowest_empty}
use Rattle.lwc_base.specs.Summaries.{is_empty}
use Rattle.lwc_base.specs.World.{Context}
use Rattle.lwc_types.specs.declared.key.TheConstants.{SLOTS}
use Rattle.lwc_types.specs.declared.key.Key.TheVariants.{Slot}
use Rattle.lazy_world.specs.Worlds.{parts, seen}
use Rattle.lazy_world.proofs.world.PlacedWorld.lowest_empty.Goals as goal

pub returns : goal.returns
unfolding value_at parts lowest_empty
returns c =
    c.lowest_empty_at.ensures
    ∙ ap (λ (x : Context). find (λ n. is_empty (value_of (seen c.args.self.now) (Slot n) (x.cell (Slot n)))) (range_with_len 0 SLOTS)) (sym c.place.ensures.context)
