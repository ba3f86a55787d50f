use Rattle.std.proofs.Common.{[], take}
use Rattle.std.specs.List.{list_any}
use Rattle.lwc_base.specs.Life.{names_group}
use Rattle.whole_world.specs.Reaping.{AddsMarks}
use Rattle.whole_world.specs.Rows.{context_of}
use Rattle.whole_world.specs.Worlds.{seen}
use Rattle.whole_world.proofs.world.WholeWorld.named_groups.Given as goal

abbrev pub invariant-loop-row : goal.invariant-loop-row
invariant-loop-row l =
    AddsMarks l.self.groups.rows.items (λ g. list_any (λ row. names_group (seen l.self).size.pages g (context_of row.1)) (take l.row-index l.row-items)) [] l.marks
