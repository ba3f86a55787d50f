use Rattle.std.proofs.Common.{arith, ◌≡◌, ◌≤◌, ◌∙◌, ap, subst, sym, true}
use Rattle.lwc_base.specs.Fresh.{IsFresh}
use Rattle.lwc_base.specs.Overlay.{ranges_after_overlay}
use Rattle.lwc_base.specs.Ranges.{ranges_of}
use Rattle.lwc_base.specs.World.{World, context, is_live}
use Rattle.lwc_types.specs.declared.limits.TheConstants.{MOST_RANGES}
use Rattle.lwc_types.specs.declared.key.Key.TheVariants.{Page}
use Rattle.lazy_world.specs.Clones.{change_nodes}
use Rattle.lazy_world.specs.Costs.{TakesNodes, pieces}
use Rattle.lazy_world.specs.declared.world.PlacedWorld.{PlacedWorld}
use Rattle.lazy_world.specs.Seen.{node_steps}
use Rattle.lazy_world.specs.Transfers.{moves}
use Rattle.lazy_world.specs.Worlds.{parts, seen}
use Rattle.lazy_world.proofs.AfterLemmas.{left-ranges}
use Rattle.lazy_world.proofs.CloneLemmas.{settled}
use Rattle.lazy_world.proofs.OverlayLemmas.{overlaid-is}
use Rattle.lazy_world.proofs.ShareLemmas.{none-moved}
use Rattle.lwc_base.proofs.Facts.{changes, stays_fresh}
use Rattle.lazy_world.proofs.world.PlacedWorld.overlay_other.Goals as goal

pub share-requires-clause-few : goal.share-requires-clause-few
unfolding seen parts
share-requires-clause-few c =
    let w = seen c.args.self.now in
    subst (λ n. n ≤ MOST_RANGES)
    (left-ranges w c.args.self.now.sound.fresh c.args.spec.now c.requires.within c.args.from c.requires.from c.args.job
    c.args.to (λ same. c.requires.apart (sym same)))
    c.requires.few.0

pub follow-requires-clause-from : goal.follow-requires-clause-from
follow-requires-clause-from c =
    let w = seen c.args.self.now in
    subst (λ v. is_live v c.args.from ≡ true) (sym c.share.ensures.world) ((changes.shared w c.args.from c.args.job c.args.spec.now).live c.args.from ∙ c.requires.from)

pub follow-requires-clause-to : goal.follow-requires-clause-to
follow-requires-clause-to c =
    let w = seen c.args.self.now in
    subst (λ v. is_live v c.args.to ≡ true) (sym c.share.ensures.world) ((changes.shared w c.args.from c.args.job c.args.spec.now).live c.args.to ∙ c.requires.to)

pub follow-requires-clause-ready : goal.follow-requires-clause-ready
follow-requires-clause-ready c =
    let w = seen c.args.self.now in
    none-moved (seen c.share.new.self) c.args.spec.now (context (seen c.share.new.self) c.args.from) c.args.to
    (λ p.
    ap (λ (v : World). moves c.args.spec.now (Page p) (context v c.args.from).cell) c.share.ensures.world
    ∙ settled w c.args.from c.args.job c.args.spec.now c.requires.within c.requires.from (Page p))

pub follow-requires-clause-fresh : goal.follow-requires-clause-fresh
unfolding seen parts
follow-requires-clause-fresh c =
    let w = seen c.args.self.now in
    subst IsFresh
    (sym (overlaid-is w c.args.from c.args.to c.args.job c.args.spec.now c.requires.within c.requires.from
    c.args.to (seen c.share.new.self) c.share.ensures.world))
    (stays_fresh.overlaid w c.args.to c.args.from c.args.job c.args.spec.now c.requires.to c.requires.from c.args.self.now.sound.fresh)

pub follow-requires-clause-few : goal.follow-requires-clause-few
unfolding ranges_after_overlay
follow-requires-clause-few c =
    let w = seen c.args.self.now in
    subst (λ v. ranges_of v c.args.to ≤ MOST_RANGES)
    (sym (overlaid-is w c.args.from c.args.to c.args.job c.args.spec.now c.requires.within c.requires.from
    c.args.to (seen c.share.new.self) c.share.ensures.world))
    c.requires.few.1

pub returns-clause-overlaid : goal.returns-clause-overlaid
returns-clause-overlaid c =
    let w = seen c.args.self.now in
    c.follow.ensures.world
    ∙ overlaid-is w c.args.from c.args.to c.args.job c.args.spec.now c.requires.within c.requires.from
    c.args.to (seen c.share.new.self) c.share.ensures.world

pub returns-clause-store : goal.returns-clause-store
returns-clause-store c = record {
  all = record {
    frames = omega (arith, c.share.ensures.store.frames, c.follow.ensures.store.frames);
    pool = c.follow.ensures.store.pool ∙ c.share.ensures.store.pool;
    nodes = omega (arith, c.share.ensures.store.nodes, c.follow.ensures.store.nodes, ap (λ v. pieces v c.args.from c.args.spec.now) c.share.ensures.world);
  };
  alone = λ none. subst (λ (v : PlacedWorld). TakesNodes v c.follow.new.self (change_nodes (pieces (seen v) c.args.from c.args.spec.now))) (c.share.ensures.none none) c.follow.ensures.store;
}

pub returns-clause-steps : goal.returns-clause-steps
returns-clause-steps c = record {
  all = omega (arith, c.share.ensures.steps, c.follow.ensures.steps, ap (λ v. pieces v c.args.from c.args.spec.now) c.share.ensures.world);
  alone = λ none. omega (arith, ap (λ (v : PlacedWorld). node_steps v.places) (c.share.ensures.none none), c.follow.ensures.steps, ap (λ (v : PlacedWorld). pieces (seen v) c.args.from c.args.spec.now) (c.share.ensures.none none));
}
