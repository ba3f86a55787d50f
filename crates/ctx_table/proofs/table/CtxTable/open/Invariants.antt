use Rattle.std.proofs.Common.{◌≡◌, replicate}
use Rattle.ctx_table.specs.declared.place.Place.TheVariants.{Free}
use Rattle.ctx_table.proofs.table.CtxTable.open.Given as goal

abbrev pub invariant-places : goal.invariant-places
invariant-places g l = l.places.items ≡ replicate l.counter Free
