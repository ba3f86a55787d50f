use Rattle.std.proofs.Common.{◌≡◌}
use Rattle.std.specs.Prelude.{replicate, None}
use Rattle.lwc_base.specs.declared.cell.Cell.TheVariants.{Own}
use Rattle.whole_world.proofs.context_row.absent_pages.Given as goal

abbrev pub invariant-loop : goal.invariant-loop
invariant-loop l = l.pages.items ≡ replicate l.counter (Own None)
