use Rattle.std.proofs.Common.{[], ◌∙◌, ap, arith, get_or, set}
use Rattle.std.proofs.lemmas.List.{get_or_default}
use Rattle.frame_pool.specs.View.{content, seen_frame}
use Rattle.frame_pool.proofs.PoolLemmas.{seen_length, seen_count, seen_free, seen_inside, seen_bytes, seen_taken}
use Rattle.frame_pool.proofs.pool.Pool.take_copy.Goals as goal

pub returns-in_err-n-clause-full : goal.returns-in_err-n-clause-full
returns-in_err-n-clause-full c = rw (c.from_residual.ensures, seen_free _ _ _ _ c.self.view_is c.self.invariant.whole) c.in_err-n.ensures.full

pub returns-clause-full : goal.returns-clause-full
returns-clause-full c = rw (seen_free _ _ _ _ c.self.view_is c.self.invariant.whole) c.in_ok-n.ensures.full

pub returns-clause-inside : goal.returns-clause-inside
returns-clause-inside c = omega (arith, seen_length _ _ _ _ c.self.view_is c.self.invariant.whole, c.in_ok-n.ensures.inside)

pub returns-clause-was_free : goal.returns-clause-was_free
returns-clause-was_free c = rw (seen_count _ _ _ _ c.self.view_is c.self.invariant.whole c.in_ok-n.n) at c.in_ok-n.ensures.was_free

pub put_copy-requires-clause-from : goal.put_copy-requires-clause-from
put_copy-requires-clause-from c =
    omega (arith, seen_inside _ _ _ _ c.self.view_is c.self.invariant.whole c.args.from.n c.requires, c.self.inside.bytes.ok, c.self.invariant.whole.filled)

pub returns-clause-taken : goal.returns-clause-taken
returns-clause-taken c =
    let inside = seen_inside _ _ _ _ c.self.view_is c.self.invariant.whole c.args.from.n c.requires in
    let kept = c.self.inside.bytes.items in
    let bytes = seen_bytes _ _ _ _ c.self.view_is c.self.invariant.whole c.args.from.n (get_or kept c.args.from.n []) inside (get_or_default kept c.args.from.n [] _ (omega (arith, inside, c.self.invariant.whole.filled))) in
    seen_taken _ _ _ _ c.self.view_is c.self.invariant.whole c.take.new.self _ _ _ _ _ _ c.in_ok-n.ensures.held
    (c.put_next.ensures.padded _ _ c.in_ok-n.ensures.inside) (c.put_copy.ensures.padded _ c.in_ok-n.ensures.inside)
    ∙ ap (λ bs. set c.args.self.now c.in_ok-n.n (seen_frame 1 (content c.args.stamp bs))) bytes
