use Rattle.std.proofs.Common.{◌≡◌}
use Rattle.std.specs.Prelude.{replicate}
use Rattle.lwc_types.specs.declared.right.Right.TheVariants.{Write}
use Rattle.whole_world.proofs.context_row.writable_pages.Given as goal

abbrev pub invariant-loop : goal.invariant-loop
invariant-loop l = l.rights.items ≡ replicate l.counter Write
