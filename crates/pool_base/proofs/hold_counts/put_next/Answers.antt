use Rattle.std.proofs.Common.{refl, arith}
use Rattle.std.proofs.Math.ListN.{length-set}
use Rattle.pool_base.proofs.PaddedLemmas.{padded-set, padded-push}
use Rattle.pool_base.proofs.hold_counts.put_next.Goals as goal

pub returns-then-place-len-clause-padded : goal.returns-then-place-len-clause-padded
returns-then-place-len-clause-padded g c = λ size fill lt.
    padded-set size fill _ _ c.args.place c.args.item (omega arith) refl (length-set c.args.items.now.items c.args.place c.args.item)

pub returns-else-place-len-clause-padded : goal.returns-else-place-len-clause-padded
returns-else-place-len-clause-padded g c = λ size fill lt.
    padded-push size fill _ _ c.args.place c.args.item (omega arith) lt c.push_reserved.ensures.items
