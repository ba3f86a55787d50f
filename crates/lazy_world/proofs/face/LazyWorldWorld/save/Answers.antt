use Rattle.std.proofs.Common.{subst, sym}
use Rattle.lwc_base.specs.World.{World}
use Rattle.lazy_world.specs.CachedRoots.{AreReached}
use Rattle.lazy_world.specs.Worlds.{seen}
use Rattle.lazy_world.proofs.CachedRootLemmas.{reached-save}
use Rattle.lazy_world.proofs.NoteLemmas.{forgotten}
use Rattle.lazy_world.proofs.face.LazyWorldWorld.save.Goals as goal

pub invariant_of-self : goal.invariant_of-self
invariant_of-self c =
    let old = c.args.self.now in
    record {
      reached = λ known.
          subst (λ (w : World). AreReached w old.cached_roots.items) (sym c.save.ensures.saved)
          (reached-save (seen old.world) old.cached_roots.items (old.reached known) c.args.context c.args.thread c.args.regs.now);
      noted = forgotten c.save.new.self c.forget.new.self c.forget.ensures.read c.forget.ensures.write;
    }
