use Rattle.std.proofs.Common.{◌≡◌, take}
use Rattle.res_spec.proofs.items.spec_of.Given as goal

abbrev pub invariant-loop-item : goal.invariant-loop-item
invariant-loop-item l = l.spec ≡ take l.item-index l.items
