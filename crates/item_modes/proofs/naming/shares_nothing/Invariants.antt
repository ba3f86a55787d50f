use Rattle.std.proofs.Common.{◌≢◌, Some, take}
use Rattle.lwc_base.specs.declared.item.Mode.TheVariants.{Share}
use Rattle.lwc_base.specs.Modes.{mode}
use Rattle.lwc_types.specs.declared.key.Key.{Key}
use Rattle.item_modes.proofs.naming.shares_nothing.Given as goal

abbrev pub invariant-loop-item : goal.invariant-loop-item
invariant-loop-item l = record { unshared : (k : Key) → mode (take l.item-index l.item-items) k ≢ Some Share }
