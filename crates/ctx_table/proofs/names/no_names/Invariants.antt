use Rattle.std.proofs.Common.{◌≡◌, None, replicate}
use Rattle.ctx_table.proofs.names.no_names.Given as goal

abbrev pub invariant-places : goal.invariant-places
invariant-places l = l.names.items ≡ replicate l.counter None
