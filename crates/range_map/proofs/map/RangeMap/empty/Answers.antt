use Rattle.std.proofs.Common.{subst, sym}
use Rattle.range_map.specs.Kinds.{IsCanonical}
use Rattle.range_map.proofs.Built.{none_canonical}
use Rattle.range_map.proofs.map.RangeMap.empty.Goals as goal

pub invariant_of-result : goal.invariant_of-result
invariant_of-result c = subst IsCanonical (sym c.new.ensures) none_canonical
