use Rattle.std.proofs.Common.{◌≤◌, ◌∙◌, arith, refl, sym, subst}
use Rattle.lwc_base.specs.Fresh.{IsFresh}
use Rattle.lwc_base.specs.Ranges.{ranges_of}
use Rattle.lwc_types.specs.declared.limits.TheConstants.{MOST_RANGES}
use Rattle.lazy_world.specs.States.{world_of}
use Rattle.lazy_world.specs.Worlds.{parts, seen}
use Rattle.lazy_world.proofs.MovedLemmas.{live-past, moved-few}
use Rattle.lazy_world.proofs.ShareLemmas.{added-context, added-empty, followed-is, moved-has, not_both}
use Rattle.lwc_base.proofs.Facts.{changes, stays_fresh}
use Rattle.lazy_world.specs.Costs.{pieces}
use Rattle.lazy_world.proofs.CostLemmas.{added-pieces, filled-pieces, takes-both}
use Rattle.lazy_world.proofs.world.PlacedWorld.share.Goals as goal

pub fill_group-requires-clause-few : goal.fill_group-requires-clause-few
unfolding seen parts world_of
fill_group-requires-clause-few c =
    let w = c.args.self.now in
    let needs = sym c.needs_group.ensures.value ∙ c.if-needs_group.true in
    moved-few (seen w) w.sound.fresh c.args.context c.args.job c.args.spec.now w.sound.sizes.size.pages.1 (live-past (parts w) w.sound c.args.context c.requires.live) c.requires.within c.requires.live
    needs c.requires.few (seen c.add_group-g.new.self)
    (added-context (seen w) c.args.context c.args.job c.args.spec.now (seen c.add_group-g.new.self) c.add_group-g.ensures.world)

pub fill_group-requires-clause-empty : goal.fill_group-requires-clause-empty
fill_group-requires-clause-empty c =
    added-empty (seen c.args.self.now) c.args.context c.args.job c.args.spec.now c.add_group-g.result (seen c.add_group-g.new.self) c.add_group-g.ensures.name c.add_group-g.ensures.world

pub follow-requires-clause-ready : goal.follow-requires-clause-ready
follow-requires-clause-ready c =
    moved-has (seen c.args.self.now) c.args.context c.args.job c.args.spec.now c.add_group-g.result (seen c.add_group-g.new.self) (seen c.fill_group.new.self)
    c.add_group-g.ensures.name c.add_group-g.ensures.world c.fill_group.ensures.world

pub follow-requires-clause-fresh : goal.follow-requires-clause-fresh
unfolding seen parts
follow-requires-clause-fresh c =
    let w = c.args.self.now in
    let needs = sym c.needs_group.ensures.value ∙ c.if-needs_group.true in
    subst IsFresh
    (sym (followed-is (seen w) c.args.context c.args.job c.args.spec.now needs c.add_group-g.result (seen c.add_group-g.new.self) (seen c.fill_group.new.self)
    c.add_group-g.ensures.name c.add_group-g.ensures.world c.fill_group.ensures.world))
    (stays_fresh.shared (seen w) c.args.context c.args.job c.args.spec.now c.requires.live w.sound.fresh)

pub follow-requires-clause-few : goal.follow-requires-clause-few
follow-requires-clause-few c =
    let w = c.args.self.now in
    let needs = sym c.needs_group.ensures.value ∙ c.if-needs_group.true in
    subst (λ v. ranges_of v c.args.context ≤ MOST_RANGES)
    (sym (followed-is (seen w) c.args.context c.args.job c.args.spec.now needs c.add_group-g.result (seen c.add_group-g.new.self) (seen c.fill_group.new.self)
    c.add_group-g.ensures.name c.add_group-g.ensures.world c.fill_group.ensures.world))
    c.requires.few

pub returns-then-needs_group-clause-world : goal.returns-then-needs_group-clause-world
returns-then-needs_group-clause-world c =
    let w = c.args.self.now in
    let needs = sym c.needs_group.ensures.value ∙ c.if-needs_group.true in
    c.follow.ensures.world
    ∙ followed-is (seen w) c.args.context c.args.job c.args.spec.now needs c.add_group-g.result (seen c.add_group-g.new.self) (seen c.fill_group.new.self)
    c.add_group-g.ensures.name c.add_group-g.ensures.world c.fill_group.ensures.world

pub returns-else-needs_group-clause-world : goal.returns-else-needs_group-clause-world
returns-else-needs_group-clause-world c =
    let w = c.args.self.now in
    sym ((changes.shared (seen w) c.args.context c.args.job c.args.spec.now).none (sym c.needs_group.ensures.value ∙ c.if-needs_group.false))

pub returns-then-needs_group-clause-none : goal.returns-then-needs_group-clause-none
returns-then-needs_group-clause-none c none = absurd (not_both _ (sym c.needs_group.ensures.value ∙ c.if-needs_group.true) none)

pub returns-then-needs_group-clause-store : goal.returns-then-needs_group-clause-store
returns-then-needs_group-clause-store c =
    let w = seen c.args.self.now in
    let first = added-pieces w c.args.context c.args.job c.args.spec.now (seen c.add_group-g.new.self) c.add_group-g.ensures.world in
    let second = filled-pieces (seen c.add_group-g.new.self) c.args.context c.args.spec.now c.add_group-g.result _ (seen c.fill_group.new.self) c.fill_group.ensures.world in
    takes-both c.args.self.now c.add_group-g.new.self c.fill_group.new.self c.follow.new.self (pieces w c.args.context c.args.spec.now) _ _ first (second ∙ first) c.add_group-g.ensures.store c.fill_group.ensures.store c.follow.ensures.store

pub returns-then-needs_group-clause-steps : goal.returns-then-needs_group-clause-steps
returns-then-needs_group-clause-steps c =
    let w = seen c.args.self.now in
    let first = added-pieces w c.args.context c.args.job c.args.spec.now (seen c.add_group-g.new.self) c.add_group-g.ensures.world in
    let second = filled-pieces (seen c.add_group-g.new.self) c.args.context c.args.spec.now c.add_group-g.result _ (seen c.fill_group.new.self) c.fill_group.ensures.world in
    omega (arith, c.add_group-g.ensures.store.steps, c.fill_group.ensures.steps, c.follow.ensures.steps, first, second)

pub returns-else-needs_group-clause-store : goal.returns-else-needs_group-clause-store
returns-else-needs_group-clause-store c = record { frames = omega arith; pool = refl; nodes = omega arith }
