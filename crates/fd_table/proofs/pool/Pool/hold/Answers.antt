use Rattle.std.proofs.Common.{length, ap, ◌∙◌, arith}
use Rattle.std.proofs.Math.ListN.{length-set}
use Rattle.fd_table.proofs.PoolLemmas.{seen_count, seen_inside, seen_recount, whole-recount}
use Rattle.fd_table.proofs.pool.Pool.hold.Goals as goal

pub hold-requires-clause-held : goal.hold-requires-clause-held
hold-requires-clause-held c = rw (seen_count _ _ _ c.self.view_is c.self.invariant.whole c.args.object) c.requires.held

pub hold-requires-clause-fits : goal.hold-requires-clause-fits
hold-requires-clause-fits c = rw (seen_count _ _ _ c.self.view_is c.self.invariant.whole c.args.object) c.requires.fits

pub returns : goal.returns
returns c =
    seen_recount _ _ _ c.self.view_is c.self.invariant.whole c.hold.new.self _ _ (seen_inside _ _ _ c.self.view_is c.self.invariant.whole _ c.requires.held)
    (rw (seen_count _ _ _ c.self.view_is c.self.invariant.whole c.args.object) at c.hold.ensures.counts)

pub invariant_of-self : goal.invariant_of-self
invariant_of-self c =
    let size = ap length c.hold.ensures.counts ∙ length-set c.self.inside.counts.counts c.args.object _ in
    record {
      whole = whole-recount _ _ _ c.self.view_is c.self.invariant.whole _ _ _ (seen_inside _ _ _ c.self.view_is c.self.invariant.whole _ c.requires.held) c.hold.ensures.counts c.hold.ensures.taken;
      room = omega (arith, size);
    }
