use Rattle.std.proofs.Common.{take}
use Rattle.std.specs.List.{list_any}
use Rattle.lwc_base.specs.Life.{is_in}
use Rattle.whole_world.specs.Reaping.{AddsMarks}
use Rattle.whole_world.proofs.world.WholeWorld.mark_cells.Given as goal

abbrev pub invariant-loop-cell : goal.invariant-loop-cell
invariant-loop-cell g l = AddsMarks l.self.groups.rows.items (λ g. list_any (is_in g) (take l.cell-index l.cells)) l.initial.marks l.marks
