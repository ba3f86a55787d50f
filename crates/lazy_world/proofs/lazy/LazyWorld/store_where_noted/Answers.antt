use Rattle.std.proofs.Common.{◌≤◌, ⊎_elim, arith, subst, sym}
use Rattle.std.proofs.lemmas.Bool.{cases_Bool}
use Rattle.lwc_base.specs.World.{World}
use Rattle.lwc_types.specs.declared.limits.TheConstants.{MOST_PAGES}
use Rattle.lazy_world.specs.CachedRoots.{AreReached}
use Rattle.lazy_world.specs.States.{world_of}
use Rattle.lazy_world.specs.Worlds.{parts, seen}
use Rattle.lazy_world.specs.declared.world.PlacedWorld.{PlacedWorld}
use Rattle.lazy_world.proofs.CachedRootLemmas.{reached-store}
use Rattle.lazy_world.proofs.lazy.LazyWorld.store_where_noted.Goals as goal

few : (w : PlacedWorld) → (seen w).size.pages ≤ MOST_PAGES
unfolding seen parts world_of
few w = w.sound.sizes.size.pages.1

pub overflow_cast-page-2 : goal.overflow_cast-page-2
overflow_cast-page-2 c = omega (arith, few c.args.self.now.world, c.requires.within)

pub store_noted-requires-clause-note : goal.store_noted-requires-clause-note
store_noted-requires-clause-note c =
    let found = c.in-Some.ensures.noted in
    c.args.self.now.noted.write found.0 _ found.1.0 found.1.1

pub invariant_of-self : goal.invariant_of-self
invariant_of-self c =
    let old = c.args.self.now in
    record {
      reached = λ known.
          ⊎_elim
          (λ yes. reached-store (seen old.world) old.cached_roots.items (old.reached known) (seen c.store_noted.new.self) c.args.context 0
          (record { at = c.args.at; bytes = c.args.piece.now }) (c.store_noted.ensures.done yes 0))
          (λ off. subst (λ (w : World). AreReached w old.cached_roots.items) (sym (c.store_noted.ensures.same off)) (old.reached known))
          (cases_Bool c.store_noted.result);
      noted = c.store_noted.ensures.notes old.notes old.noted;
    }
