use Rattle.std.proofs.Common.{subst, sym}
use Rattle.range_map.specs.Kinds.{IsCanonical}
use Rattle.range_map.proofs.Built.{none_canonical}
use Rattle.range_map.proofs.map.RangeMap.clear.Goals as goal

pub invariant_of-self : goal.invariant_of-self
invariant_of-self c = subst IsCanonical (sym c.clear.ensures) none_canonical
