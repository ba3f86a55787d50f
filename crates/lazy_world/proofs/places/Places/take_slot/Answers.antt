use Rattle.std.proofs.Common.{ap, sym, subst, ◌∙◌}
use Rattle.lwc_base.specs.declared.cell.Cell.{Cell}
use Rattle.lwc_base.specs.Keys.{with_key}
use Rattle.lwc_types.specs.declared.key.Key.TheVariants.{Slot}
use Rattle.lazy_world.specs.Cells.{put_row}
use Rattle.lazy_world.specs.Transfers.{CanGet, given_or}
use Rattle.lazy_world.specs.Seen.{count, rows}
use Rattle.lazy_world.proofs.TakeLemmas.{kept-key}
use Rattle.lazy_world.proofs.places.Places.take_slot.Goals as goal

pub fill_slot-requires-clause-given : goal.fill_slot-requires-clause-given
fill_slot-requires-clause-given c = subst (CanGet (count c.args.self.now) c.args.place) c.in-Some.is c.requires.given

pub returns-in-Some-clause-rows : goal.returns-in-Some-clause-rows
returns-in-Some-clause-rows c =
    let old = rows c.args.self.now in
    c.fill_slot.ensures.rows ∙ ap (λ s. put_row old c.args.place (with_key Cell (Slot c.args.slot) (given_or old (Slot c.args.slot) (old c.args.place (Slot c.args.slot)) s) (old c.args.place))) (sym c.in-Some.is)

pub returns-in_default-clause-rows : goal.returns-in_default-clause-rows
returns-in_default-clause-rows c =
    let old = rows c.args.self.now in
    kept-key old c.args.place (Slot c.args.slot) ∙ ap (λ s. put_row old c.args.place (with_key Cell (Slot c.args.slot) (given_or old (Slot c.args.slot) (old c.args.place (Slot c.args.slot)) s) (old c.args.place))) (sym c.in_default.is)
