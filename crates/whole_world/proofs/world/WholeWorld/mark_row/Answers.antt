use Rattle.std.proofs.Common.{subst}
use Rattle.std.specs.List.{list_any}
use Rattle.lwc_base.specs.Life.{is_in}
use Rattle.whole_world.specs.Reaping.{AddsMarks}
use Rattle.whole_world.proofs.Marking.{adds-row}
use Rattle.whole_world.proofs.world.WholeWorld.mark_row.Goals as goal

pub returns : goal.returns
returns c =
    adds-row _ c.args.row.now _ _ _ _ _ c.requires
    (subst (λ cells. AddsMarks c.args.self.now.groups.rows.items (λ g. list_any (is_in g) cells) c.args.marks.now c.mark_cells.new.marks) c.as_slice.ensures.value c.mark_cells.ensures)
    (subst (λ cells. AddsMarks c.args.self.now.groups.rows.items (λ g. list_any (is_in g) cells) c.mark_cells.new.marks c.mark_cells-2.new.marks) c.as_slice-2.ensures.value c.mark_cells-2.ensures)
    c.mark_cell.ensures
