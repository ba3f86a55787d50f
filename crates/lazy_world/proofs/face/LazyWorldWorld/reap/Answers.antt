use Rattle.std.proofs.Common.{subst, sym}
use Rattle.lwc_base.specs.Life.{reap}
use Rattle.lwc_base.specs.World.{World}
use Rattle.lazy_world.specs.CachedRoots.{AreReached}
use Rattle.lazy_world.specs.Worlds.{seen}
use Rattle.lazy_world.proofs.CachedRootLemmas.{reached-reaped}
use Rattle.lwc_base.proofs.Reaped.{reaped-reap}
use Rattle.lazy_world.proofs.NoteLemmas.{forgotten}
use Rattle.lazy_world.proofs.face.LazyWorldWorld.reap.Goals as goal

pub invariant_of-self : goal.invariant_of-self
invariant_of-self c =
    let w = seen c.args.self.now.world in
    let roots = c.args.roots.now in
    record {
      reached = λ _.
          subst (AreReached (seen c.reap_from.new.self)) (sym c.set_cached_roots.ensures)
          (subst (λ (v : World). AreReached v roots) (sym c.reap_from.ensures)
          (reached-reaped (reap w roots) roots (reaped-reap w roots)));
      noted = forgotten c.reap_from.new.self c.forget.new.self c.forget.ensures.read c.forget.ensures.write;
    }
