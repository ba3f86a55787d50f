use Rattle.res_spec.proofs.ValidItems.{apart_before}
use Rattle.res_spec.proofs.items.spec_of.Goals as goal

pub push-requires-clause-apart : goal.push-requires-clause-apart
push-requires-clause-apart c = rw c.loop-item.invariant (apart_before c.args.items.now c.loop-item.item-index _ c.requires.valid.apart c.loop-item-test.true)
