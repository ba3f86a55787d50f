use Rattle.std.proofs.Common.{arith}
use Rattle.range_map.proofs.Alike.{between_same}
use Rattle.range_map.proofs.runs.sooner_edge.Goals as goal

pub returns-clause-alike : goal.returns-clause-alike
returns-clause-alike c q low high =
    let begins = c.sooner.ensures in
    let ends = c.sooner-2.ensures in
    between_same c.args.page c.sooner-2.result q c.args.from c.args.to (λ late. let off = begins.other late in omega (arith, off, ends.within)) ends.other low high
