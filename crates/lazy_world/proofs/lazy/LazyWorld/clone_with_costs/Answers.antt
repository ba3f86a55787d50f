use Rattle.std.proofs.Common.{ap, subst, sym, ◌∙◌, Some}
use Rattle.lwc_base.specs.Sharing.{clone_context}
use Rattle.lwc_base.specs.World.{World, next_context}
use Rattle.lwc_types.specs.declared.name.Name.{Name}
use Rattle.lazy_world.specs.CachedRoots.{AreReached, with_cached_root}
use Rattle.lazy_world.specs.Worlds.{parts, seen}
use Rattle.lazy_world.proofs.CachedRootLemmas.{reached-clone}
use Rattle.lazy_world.proofs.NoteLemmas.{forgotten}
use Rattle.lazy_world.proofs.lazy.LazyWorld.clone_with_costs.Goals as goal

pub invariant_of-self : goal.invariant_of-self
unfolding seen parts
invariant_of-self c =
    let old = c.args.self.now in
    let w = seen old.world in
    let names = old.cached_roots.items in
    let made = c.clone_context.ensures.cloned ∙ (λ e. clone_context (seen (c.add_cached_root.ensures.world e)) c.args.context c.args.job c.args.spec.now c.args.entry.now) in
    record {
      reached = λ known.
          subst (AreReached (seen c.clone_context.new.self))
          (sym (c.add_cached_root.ensures.cached_roots known ∙ ap (λ (n : Name). with_cached_root names (Some n)) c.next_name-next.ensures))
          (subst (λ (v : World). AreReached v (with_cached_root names (Some (next_context w c.args.job)))) (sym made)
          (reached-clone w names (old.reached (c.add_cached_root.ensures.kept known)) old.world.sound.fresh c.args.context c.args.job c.args.spec.now c.args.entry.now));
      noted = forgotten c.clone_context.new.self c.forget.new.self c.forget.ensures.read c.forget.ensures.write;
    }
