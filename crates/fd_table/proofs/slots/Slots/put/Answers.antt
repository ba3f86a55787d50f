use Rattle.std.proofs.Common.{set, ap, ◌∙◌}
use Rattle.fd_table.specs.Seen.{slots}
use Rattle.fd_table.specs.Slots.{cell_of, row_of, put_slot}
use Rattle.fd_table.proofs.SlotLemmas.{put-twice}
use Rattle.fd_table.proofs.slots.Slots.put.Goals as goal

pub returns-then-is_filled : goal.returns-then-is_filled
returns-then-is_filled c =
    c.fill_slot.ensures ∙ ap (λ all. set all c.args.place (put_slot (row_of all c.args.place) c.args.slot (record { cell = cell_of c.args.cell; target = c.args.target }))) c.empty_slot.ensures
    ∙ put-twice (slots c.args.self.now) c.args.place c.args.slot _ _ c.requires.place
