use Rattle.std.proofs.Common.{arith}
use Rattle.ctx_table.proofs.NameSlots.{none-indexed, placed}
use Rattle.lwc_types.specs.declared.limits.TheConstants.{MOST_GROUPS}
use Rattle.ctx_table.proofs.names.Names.open.Goals as goal

pub invariant_of-result : goal.invariant_of-result
invariant_of-result c = record { indexed = none-indexed _ _ c.args.places MOST_GROUPS c.in_ok-no_names.ensures c.in_ok-with_room.ensures c.requires; taken = omega arith }

pub returns-clause-placed : goal.returns-clause-placed
returns-clause-placed c = placed _ _ (none-indexed _ _ c.args.places MOST_GROUPS c.in_ok-no_names.ensures c.in_ok-with_room.ensures c.requires)
