use Rattle.std.proofs.Common.{rules, ◌∙◌, sym}
use Rattle.whole_world.proofs.Marking.{adds-nowhere, adds-place}
use Rattle.whole_world.proofs.world.WholeWorld.mark_cell.Goals as goal

pub returns-in-Some : goal.returns-in-Some
returns-in-Some g c =
    adds-place c.args.self.now.groups.rows.items c.args.cell.now c.in-Common.g c.in-Some.place c.args.marks.now c.args.self.now.sound.groups_sorted
    (search rules) (sym c.position.ensures ∙ c.in-Some.is) (search rules)

pub returns-in_default-position : goal.returns-in_default-position
returns-in_default-position g c =
    adds-nowhere c.args.self.now.groups.rows.items c.args.cell.now c.in-Common.g c.args.marks.now c.args.self.now.sound.groups_sorted
    (search rules) (sym c.position.ensures ∙ c.in_default-position.is)
