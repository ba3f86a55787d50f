use Rattle.std.proofs.Common.{subst}
use Rattle.range_map.specs.Kinds.{IsCanonical}
use Rattle.range_map.proofs.Built.{segments_inside}
use Rattle.range_map.proofs.map.RangeMap.segments.Goals as goal

pub returns-clause-each : goal.returns-clause-each
returns-clause-each c = segments_inside c.args.self.now (subst IsCanonical c.self.view_is c.self.invariant)
