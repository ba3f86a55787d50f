use Rattle.std.proofs.Common.{subst, sym}
use Rattle.lazy_world.specs.CachedRoots.{AreReached}
use Rattle.lazy_world.specs.Worlds.{seen}
use Rattle.lazy_world.proofs.CachedRootLemmas.{reached-more}
use Rattle.lazy_world.proofs.lazy.LazyWorld.add_cached_root.Goals as goal

pub invariant_of-self-else-not-add_root : goal.invariant_of-self-else-not-add_root
invariant_of-self-else-not-add_root c =
    let old = c.args.self.now in
    record {
      reached = λ known.
          subst (AreReached (seen old.world)) (sym (c.add_root.ensures.added c.if-not-add_root.false))
          (reached-more (seen old.world) old.cached_roots.items c.args.context (old.reached known));
      noted = old.noted;
    }
