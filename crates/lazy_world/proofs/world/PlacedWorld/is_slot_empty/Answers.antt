use Rattle.std.proofs.Common.{◌∙◌, ap, not, sym}
use Rattle.lwc_base.specs.Cells.{value_of}
use Rattle.lwc_base.specs.Summaries.{is_empty}
use Rattle.lwc_types.specs.declared.key.Key.TheVariants.{Slot}
use Rattle.lazy_world.specs.Seen.{rows}
use Rattle.lazy_world.specs.Worlds.{seen}
use Rattle.lazy_world.proofs.AddLemmas.{no_slot}
use Rattle.lazy_world.proofs.CopyLemmas.{own-filled}
use Rattle.lazy_world.proofs.world.PlacedWorld.is_slot_empty.Goals as goal

pub returns-then-not-is_filled : goal.returns-then-not-is_filled
returns-then-not-is_filled c =
    let w = c.args.self.now in
    sym
    (ap (λ cell. is_empty (value_of (seen w) (Slot c.args.slot) cell))
    (no_slot (rows w.places c.args.place (Slot c.args.slot)) c.args.slot (ap not (sym c.is_filled.ensures ∙ c.if-not-is_filled.true))))

pub returns-then-not-is_common : goal.returns-then-not-is_common
returns-then-not-is_common c =
    let w = c.args.self.now in
    own-filled (seen w) c.args.slot (rows w.places c.args.place (Slot c.args.slot)) (sym c.is_common.ensures ∙ c.if-not-is_common.true) (sym c.is_filled.ensures ∙ c.if-not-is_filled.false)
