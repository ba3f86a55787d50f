use Rattle.std.proofs.Common.{arith, ◌∙◌, ap, refl}
use Rattle.std.proofs.Math.ListN.{length-set}
use Rattle.pool_base.proofs.PaddedLemmas.{padded-set}
use Rattle.frame_pool.specs.Frame.{refill_frame}
use Rattle.frame_pool.proofs.PoolLemmas.{seen_inside, seen_bytes, seen_refill}
use Rattle.frame_pool.proofs.pool.Pool.copy_to.Goals as goal

pub index-bytes-requires : goal.index-bytes-requires
index-bytes-requires c =
    omega (arith, seen_inside _ _ _ _ c.self.view_is c.self.invariant.whole c.args.from.n c.requires.held, c.self.inside.bytes.ok, c.self.invariant.whole.filled)

pub index_mut-requires : goal.index_mut-requires
index_mut-requires c =
    omega (arith, seen_inside _ _ _ _ c.self.view_is c.self.invariant.whole c.args.to.n (omega (arith, c.requires.once)), c.self.inside.bytes.ok, c.self.invariant.whole.filled)

pub returns : goal.returns
returns c =
    let from_inside = seen_inside _ _ _ _ c.self.view_is c.self.invariant.whole c.args.from.n c.requires.held in
    let to_inside = seen_inside _ _ _ _ c.self.view_is c.self.invariant.whole c.args.to.n (omega (arith, c.requires.once)) in
    seen_refill _ _ _ _ c.self.view_is c.self.invariant.whole _ _ _ to_inside (padded-set _ _ _ _ _ _ (omega (arith, to_inside, c.self.invariant.whole.filled)) refl (length-set c.self.inside.bytes.items c.args.to.n _)) ∙ ap (refill_frame c.args.self.now c.args.to.n) (seen_bytes _ _ _ _ c.self.view_is c.self.invariant.whole _ _ from_inside c.index-bytes.ensures)
