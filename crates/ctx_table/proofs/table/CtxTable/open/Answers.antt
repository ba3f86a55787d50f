use Rattle.std.proofs.Common.{arith}
use Rattle.ctx_table.proofs.Taken.{empty-indexed, empty-kept, empty-places}
use Rattle.ctx_table.proofs.table.CtxTable.open.Goals as goal

pub invariant_of-result : goal.invariant_of-result
invariant_of-result g c = empty-indexed c.places.places.items c.places.counter c.args.contexts c.places.invariant (omega arith) c.in_ok-with_room.field-0 c.in_ok-with_room.ensures c.requires

pub returns-clause-kept : goal.returns-clause-kept
returns-clause-kept g c = empty-kept c.places.places.items c.places.counter c.args.contexts c.places.invariant (omega arith)

pub returns-clause-places : goal.returns-clause-places
returns-clause-places g c = empty-places c.places.places.items c.places.counter c.args.contexts c.places.invariant (omega arith)
