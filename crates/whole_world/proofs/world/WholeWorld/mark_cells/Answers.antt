use Rattle.std.proofs.Common.{◌∙◌, ◌||◌, ap, sym, subst, take, take_all}
use Rattle.std.specs.List.{list_any}
use Rattle.std.proofs.lemmas.List.Folds.{list_any_more}
use Rattle.lwc_base.specs.Life.{is_in}
use Rattle.whole_world.specs.Reaping.{AddsMarks}
use Rattle.whole_world.proofs.Marking.{adds-more}
use Rattle.whole_world.proofs.world.WholeWorld.mark_cells.Goals as goal

pub loop-cell-preserved : goal.loop-cell-preserved
loop-cell-preserved g c =
    adds-more _ _ _ _ _ _ _ c.loop-cell.invariant c.mark_cell.ensures
    (λ h.
    ap (λ cell. list_any (is_in h) (take c.loop-cell.cell-index c.args.cells.now) || is_in h cell) c.cell-item.is
    ∙ sym (list_any_more (is_in h) c.args.cells.now c.loop-cell.cell-index c.cell-item.result c.loop-cell-test.true))

pub returns : goal.returns
returns g c =
    subst (λ cells. AddsMarks c.args.self.now.groups.rows.items (λ h. list_any (is_in h) cells) c.args.marks.now c.loop-cell.marks)
    (take_all c.loop-cell.cell-index c.args.cells.now c.loop-cell-test.false) c.loop-cell.invariant
