use Rattle.std.proofs.Common.{◌∙◌, sym}
use Rattle.whole_world.proofs.Tables.{chosen_ok, put-insert}
use Rattle.whole_world.proofs.table.Table.insert.Goals as goal

pub returns : goal.returns
returns g c =
    c.insert.ensures.items ∙ chosen_ok c.insert.result _ _ (c.insert.ensures.succeeds c.requires.room)
    ∙ put-insert c.args.name c.args.value c.args.self.now.rows.items _ (sym c.place_for-place.ensures.place) c.requires.new
