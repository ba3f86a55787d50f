use Rattle.std.proofs.Common.{ap, arith}
use Rattle.pool_base.specs.HoldCounts.{held_count}
use Rattle.pool_base.proofs.PaddedLemmas.{held-padded}
use Rattle.pool_base.proofs.StackLemmas.{free-held}
use Rattle.pool_base.proofs.hold_counts.HoldCounts.used.Goals as goal

pub returns-clause-held : goal.returns-clause-held
returns-clause-held c =
    let seen = ap (λ places. held_count places.counts) c.self.view_is in
    omega (arith, seen, held-padded c.self.inside.places c.self.inside.counts.items, free-held c.self.inside.counts.items, c.self.invariant.stack.many, c.self.inside.counts.ok, c.self.inside.free.ok)

pub returns-clause-all : goal.returns-clause-all
returns-clause-all c =
    let seen = ap (λ places. held_count places.counts) c.self.view_is in
    omega (arith, free-held c.args.self.now.counts, seen, held-padded c.self.inside.places c.self.inside.counts.items, free-held c.self.inside.counts.items, c.self.invariant.stack.many, c.self.inside.counts.ok, c.self.inside.free.ok)
