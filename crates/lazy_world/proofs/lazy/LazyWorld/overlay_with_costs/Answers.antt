use Rattle.std.proofs.Common.{subst, sym, ◌∙◌}
use Rattle.lwc_base.specs.Overlay.{overlay}
use Rattle.lwc_base.specs.World.{World}
use Rattle.lazy_world.specs.CachedRoots.{AreReached}
use Rattle.lazy_world.specs.Worlds.{parts, seen}
use Rattle.lazy_world.proofs.CachedRootLemmas.{reached-overlay}
use Rattle.lazy_world.proofs.NoteLemmas.{forgotten}
use Rattle.lazy_world.proofs.lazy.LazyWorld.overlay_with_costs.Goals as goal

pub invariant_of-self : goal.invariant_of-self
unfolding seen parts
invariant_of-self c =
    let old = c.args.self.now in
    let added = c.add_named_links.ensures in
    let all = c.add_named_links.new.self.cached_roots.items in
    let overlaid = c.overlay.ensures.overlaid ∙ (λ e. overlay (seen (added.world e)) c.args.to c.args.from c.args.job c.args.spec.now) in
    record {
      reached = λ known.
          subst (λ (v : World). AreReached v all) (sym overlaid)
          (reached-overlay (seen old.world) old.cached_roots.items (old.reached (added.kept known)) old.world.sound.fresh
          c.args.to c.args.from c.args.job c.args.spec.now all added.more (added.links known));
      noted = forgotten c.overlay.new.self c.forget.new.self c.forget.ensures.read c.forget.ensures.write;
    }
