use Rattle.std.proofs.Common.{length}
use Rattle.res_spec.proofs.items.+has_overlap.Given as goal

abbrev pub decreases-has_overlap : goal.decreases-has_overlap
decreases-has_overlap l = length l.items.now
