use Rattle.std.proofs.Common.{ap, subst, sym, ◌∙◌}
use Rattle.fd_table.specs.Slots.{context_of}
use Rattle.lwc_base.specs.Cells.{put_slot}
use Rattle.lwc_base.specs.Lending.{descriptor_of}
use Rattle.lwc_base.specs.World.{World}
use Rattle.lazy_world.specs.declared.world.PlacedWorld.{PlacedWorld}
use Rattle.lazy_world.specs.CachedRoots.{AreReached, with_cached_root}
use Rattle.lazy_world.specs.Worlds.{parts, seen}
use Rattle.lazy_world.proofs.CachedRootLemmas.{reached-put}
use Rattle.lazy_world.proofs.WorldLemmas.{slot-found}
use Rattle.lazy_world.proofs.NoteLemmas.{forgotten}
use Rattle.lazy_world.proofs.face.LazyWorldWorld.set_slot.Goals as goal

pub invariant_of-self : goal.invariant_of-self
unfolding seen parts
invariant_of-self c =
    let old = c.args.self.now in
    let put = c.set_slot.ensures.put ∙ ap (λ (p : PlacedWorld). put_slot (seen p) c.args.context c.args.slot (descriptor_of c.args.value)) c.add_cached_root.ensures.world in
    record {
      reached = λ known.
          subst (AreReached (seen c.set_slot.new.self)) (sym (c.add_cached_root.ensures.cached_roots known))
          (subst (λ (w : World). AreReached w (with_cached_root old.cached_roots.items c.linked-cut.result)) (sym put)
          (reached-put (seen old.world) old.cached_roots.items (old.reached (c.add_cached_root.ensures.kept known))
          c.args.context c.args.slot (descriptor_of c.args.value) c.linked-cut.result
          (c.linked-cut.ensures ∙ ap context_of (slot-found (parts old.world) c.args.context c.place-i.result c.args.slot c.place-i.ensures.found))));
      noted = forgotten c.set_slot.new.self c.forget.new.self c.forget.ensures.read c.forget.ensures.write;
    }
