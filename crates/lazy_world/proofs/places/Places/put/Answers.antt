use Rattle.std.proofs.Common.{◌∙◌, ap, sym}
use Rattle.lazy_world.specs.Cells.{put_row}
use Rattle.lazy_world.specs.Seen.{rows}
use Rattle.lazy_world.proofs.KeyLemmas.{put_value}
use Rattle.lazy_world.proofs.places.Places.put.Goals as goal

pub returns-in-Slot-clause-rows : goal.returns-in-Slot-clause-rows
returns-in-Slot-clause-rows c =
    let old = rows c.args.self.now in
    c.put_slot.ensures.rows ∙ ap (λ v. put_row old c.args.place (put_value v (old c.args.place))) (sym c.in-Slot.is)

pub returns-in-Cred-clause-rows : goal.returns-in-Cred-clause-rows
returns-in-Cred-clause-rows c =
    let old = rows c.args.self.now in
    c.put_uid.ensures.rows ∙ ap (λ v. put_row old c.args.place (put_value v (old c.args.place))) (sym c.in-Cred.is)
