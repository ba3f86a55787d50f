use Rattle.std.proofs.Common.{◌≡◌, ◌≤◌, replicate, vec_len, vec_capacity}
use Rattle.lwc_base.specs.declared.cell.Cell.TheVariants.{Own}
use Rattle.lwc_types.specs.declared.key.TheConstants.{NOBODY}
use Rattle.lazy_world.proofs.places.no_uids.Given as goal

abbrev pub invariant-places : goal.invariant-places
invariant-places l =
    record { items : l.uids.items ≡ replicate l.counter (Own NOBODY); long : vec_len l.uids ≡ l.counter; room : l.fn.places ≤ vec_capacity l.uids }
