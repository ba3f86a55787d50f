use Rattle.std.proofs.Common.{rules}
use Rattle.guest_call.specs.Asked.{item_bytes, item_refusals, items_of}
use Rattle.res_spec.specs.Items.{faults, read}
use Rattle.guest_call.proofs.asking.some_items.Goals as goal

pub returns-then-not-bytes_for-clause-refused : goal.returns-then-not-bytes_for-clause-refused
unfolding item_refusals item_bytes
returns-then-not-bytes_for-clause-refused g c = search rules

pub returns-clause-refused : goal.returns-clause-refused
unfolding item_refusals item_bytes items_of read faults
returns-clause-refused g c = search rules

pub returns-clause-passed : goal.returns-clause-passed
unfolding item_refusals item_bytes items_of read faults
returns-clause-passed g c = search rules

pub returns-clause-items : goal.returns-clause-items
unfolding item_bytes items_of read faults
returns-clause-items g c = search rules
