use Rattle.std.proofs.Common.{◌≤◌, ◌∙◌, arith, subst, sym}
use Rattle.lwc_base.specs.Fresh.{IsFresh}
use Rattle.lwc_base.specs.Overlay.{ranges_after_overlay}
use Rattle.lwc_base.specs.Ranges.{ranges_of}
use Rattle.lwc_base.specs.World.{context}
use Rattle.lwc_types.specs.declared.limits.TheConstants.{MOST_RANGES}
use Rattle.lwc_types.specs.declared.key.Key.TheVariants.{Page}
use Rattle.lazy_world.specs.States.{world_of}
use Rattle.lazy_world.specs.Worlds.{parts, seen}
use Rattle.lazy_world.specs.Costs.{pieces}
use Rattle.lazy_world.proofs.CostLemmas.{added-pieces, filled-pieces, takes-both}
use Rattle.lazy_world.proofs.ItselfLemmas.{itself-few, itself-is}
use Rattle.lazy_world.proofs.MovedLemmas.{live-past}
use Rattle.lazy_world.proofs.OverlayLemmas.{overlaid-is}
use Rattle.lazy_world.proofs.CloneLemmas.{none-moves}
use Rattle.lazy_world.proofs.ShareLemmas.{added-context, added-empty, moved-has, none-moved, not_both}
use Rattle.lwc_base.proofs.Facts.{changes, stays_fresh}
use Rattle.lazy_world.proofs.world.PlacedWorld.overlay_itself.Goals as goal

pub fill_group-requires-clause-few : goal.fill_group-requires-clause-few
unfolding seen parts world_of
fill_group-requires-clause-few c =
    let w = c.args.self.now in
    itself-few (seen w) w.sound.fresh c.args.spec.now c.requires.within c.args.context c.requires.live c.args.job
    w.sound.sizes.size.pages.1 (live-past (parts w) w.sound c.args.context c.requires.live) c.requires.few.1 (seen c.add_group-g.new.self)
    (added-context (seen w) c.args.context c.args.job c.args.spec.now (seen c.add_group-g.new.self) c.add_group-g.ensures.world)

pub fill_group-requires-clause-empty : goal.fill_group-requires-clause-empty
fill_group-requires-clause-empty c =
    added-empty (seen c.args.self.now) c.args.context c.args.job c.args.spec.now c.add_group-g.result (seen c.add_group-g.new.self) c.add_group-g.ensures.name c.add_group-g.ensures.world

pub follow-requires-clause-ready : goal.follow-requires-clause-ready
follow-requires-clause-ready c =
    moved-has (seen c.args.self.now) c.args.context c.args.job c.args.spec.now c.add_group-g.result (seen c.add_group-g.new.self) (seen c.fill_group.new.self)
    c.add_group-g.ensures.name c.add_group-g.ensures.world c.fill_group.ensures.world

pub follow-requires-else-needs_group-clause-ready : goal.follow-requires-else-needs_group-clause-ready
follow-requires-else-needs_group-clause-ready c =
    let w = seen c.args.self.now in
    none-moved w c.args.spec.now (context w c.args.context) c.args.context
    (λ p. none-moves w c.args.context c.args.job c.args.spec.now c.requires.within c.requires.live (sym c.needs_group.ensures.value ∙ c.if-needs_group.false) (Page p))

pub follow-requires-clause-fresh : goal.follow-requires-clause-fresh
unfolding seen parts
follow-requires-clause-fresh c =
    let w = c.args.self.now in
    subst IsFresh
    (sym (itself-is (seen w) w.sound.fresh c.args.spec.now c.requires.within c.args.context c.requires.live c.args.job
    (sym c.needs_group.ensures.value ∙ c.if-needs_group.true) c.add_group-g.result (seen c.add_group-g.new.self) (seen c.fill_group.new.self)
    c.add_group-g.ensures.name c.add_group-g.ensures.world c.fill_group.ensures.world))
    (stays_fresh.overlaid (seen w) c.args.context c.args.context c.args.job c.args.spec.now c.requires.live c.requires.live w.sound.fresh)

pub follow-requires-clause-few : goal.follow-requires-clause-few
unfolding seen parts ranges_after_overlay
follow-requires-clause-few c =
    let w = c.args.self.now in
    subst (λ v. ranges_of v c.args.context ≤ MOST_RANGES)
    (sym (itself-is (seen w) w.sound.fresh c.args.spec.now c.requires.within c.args.context c.requires.live c.args.job
    (sym c.needs_group.ensures.value ∙ c.if-needs_group.true) c.add_group-g.result (seen c.add_group-g.new.self) (seen c.fill_group.new.self)
    c.add_group-g.ensures.name c.add_group-g.ensures.world c.fill_group.ensures.world))
    c.requires.few.1

pub follow-requires-else-needs_group-clause-fresh : goal.follow-requires-else-needs_group-clause-fresh
unfolding seen parts
follow-requires-else-needs_group-clause-fresh c =
    let w = c.args.self.now in
    subst IsFresh
    (sym (overlaid-is (seen w) c.args.context c.args.context c.args.job c.args.spec.now c.requires.within c.requires.live
    c.args.context (seen w) (sym ((changes.shared (seen w) c.args.context c.args.job c.args.spec.now).none (sym c.needs_group.ensures.value ∙ c.if-needs_group.false)))))
    (stays_fresh.overlaid (seen w) c.args.context c.args.context c.args.job c.args.spec.now c.requires.live c.requires.live w.sound.fresh)

pub follow-requires-else-needs_group-clause-few : goal.follow-requires-else-needs_group-clause-few
unfolding ranges_after_overlay
follow-requires-else-needs_group-clause-few c =
    let w = c.args.self.now in
    subst (λ v. ranges_of v c.args.context ≤ MOST_RANGES)
    (sym (overlaid-is (seen w) c.args.context c.args.context c.args.job c.args.spec.now c.requires.within c.requires.live
    c.args.context (seen w) (sym ((changes.shared (seen w) c.args.context c.args.job c.args.spec.now).none (sym c.needs_group.ensures.value ∙ c.if-needs_group.false)))))
    c.requires.few.1

pub returns-then-needs_group-clause-overlaid : goal.returns-then-needs_group-clause-overlaid
unfolding seen parts
returns-then-needs_group-clause-overlaid c =
    let w = c.args.self.now in
    c.follow.ensures.world
    ∙ itself-is (seen w) w.sound.fresh c.args.spec.now c.requires.within c.args.context c.requires.live c.args.job
    (sym c.needs_group.ensures.value ∙ c.if-needs_group.true) c.add_group-g.result (seen c.add_group-g.new.self) (seen c.fill_group.new.self)
    c.add_group-g.ensures.name c.add_group-g.ensures.world c.fill_group.ensures.world

pub returns-else-needs_group-clause-overlaid : goal.returns-else-needs_group-clause-overlaid
returns-else-needs_group-clause-overlaid c =
    let w = c.args.self.now in
    c.follow-else-needs_group.ensures.world
    ∙ overlaid-is (seen w) c.args.context c.args.context c.args.job c.args.spec.now c.requires.within c.requires.live
    c.args.context (seen w) (sym ((changes.shared (seen w) c.args.context c.args.job c.args.spec.now).none (sym c.needs_group.ensures.value ∙ c.if-needs_group.false)))

pub returns-then-needs_group-clause-store : goal.returns-then-needs_group-clause-store
returns-then-needs_group-clause-store c =
    let w = seen c.args.self.now in
    let first = added-pieces w c.args.context c.args.job c.args.spec.now (seen c.add_group-g.new.self) c.add_group-g.ensures.world in
    let second = filled-pieces (seen c.add_group-g.new.self) c.args.context c.args.spec.now c.add_group-g.result _ (seen c.fill_group.new.self) c.fill_group.ensures.world in
    let both = takes-both c.args.self.now c.add_group-g.new.self c.fill_group.new.self c.follow.new.self (pieces w c.args.context c.args.spec.now) _ _ first (second ∙ first) c.add_group-g.ensures.store c.fill_group.ensures.store c.follow.ensures.store in
    record {
      all = record { frames = both.frames; pool = both.pool; nodes = omega (arith, both.nodes) };
      alone = λ none. absurd (not_both _ (sym c.needs_group.ensures.value ∙ c.if-needs_group.true) none);
    }

pub returns-then-needs_group-clause-steps : goal.returns-then-needs_group-clause-steps
returns-then-needs_group-clause-steps c =
    let w = seen c.args.self.now in
    let first = added-pieces w c.args.context c.args.job c.args.spec.now (seen c.add_group-g.new.self) c.add_group-g.ensures.world in
    let second = filled-pieces (seen c.add_group-g.new.self) c.args.context c.args.spec.now c.add_group-g.result _ (seen c.fill_group.new.self) c.fill_group.ensures.world in
    record {
      all = omega (arith, c.add_group-g.ensures.store.steps, c.fill_group.ensures.steps, c.follow.ensures.steps, first, second);
      alone = λ none. absurd (not_both _ (sym c.needs_group.ensures.value ∙ c.if-needs_group.true) none);
    }

pub returns-else-needs_group-clause-store : goal.returns-else-needs_group-clause-store
returns-else-needs_group-clause-store c =
    let kept = c.follow-else-needs_group.ensures.store in
    record {
      all = record { frames = kept.frames; pool = kept.pool; nodes = omega (arith, kept.nodes) };
      alone = λ none. kept;
    }

pub returns-else-needs_group-clause-steps : goal.returns-else-needs_group-clause-steps
returns-else-needs_group-clause-steps c = record {
  all = omega (arith, c.follow-else-needs_group.ensures.steps);
  alone = λ none. c.follow-else-needs_group.ensures.steps;
}
