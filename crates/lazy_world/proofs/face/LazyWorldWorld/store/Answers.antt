use Rattle.std.proofs.Common.{◌+◌, ◌*◌, ◌≤◌, length, subst, sym}
use Rattle.lwc_base.specs.World.{World}
use Rattle.lwc_types.specs.declared.page.TheConstants.{PAGE_BYTES}
use Rattle.world_face.specs.Calls.{IsLive, MayName}
use Rattle.lazy_world.specs.Worlds.{seen}
use Rattle.lazy_world.proofs.CachedRootLemmas.{reached-stored}
use Rattle.lazy_world.proofs.NoteLemmas.{forgotten}
use Rattle.lazy_world.proofs.face.LazyWorldWorld.store.Goals as goal

pub store-requires : goal.store-requires
store-requires c =
    let same = sym (c.store_in_place.ensures.same c.if-store_in_place.false) in
    record {
      live = subst (λ (w : World). IsLive w c.args.context) same c.requires.live;
      within = subst (λ (w : World). c.args.at + length c.args.piece.now ≤ w.size.pages * PAGE_BYTES) same c.requires.within;
      short = c.requires.short;
      may = subst (λ (w : World). MayName w c.args.job) same c.requires.may;
    }

pub invariant_of-self : goal.invariant_of-self
invariant_of-self c =
    let kept = c.store_in_place.new.self in
    record {
      reached = λ known.
          reached-stored (seen kept.world) kept.cached_roots.items (kept.reached known) (seen c.store.new.self) c.args.context c.args.job
          (record { at = c.args.at; bytes = c.args.piece.now }) c.store.result c.store.ensures.done c.store.ensures.err;
      noted = forgotten c.store.new.self c.forget.new.self c.forget.ensures.read c.forget.ensures.write;
    }
