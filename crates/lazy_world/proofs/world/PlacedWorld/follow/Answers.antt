use Rattle.std.proofs.Common.{arith, ◌≤◌, ◌∙◌, ℕ, ap, sym, subst}
use Rattle.lwc_types.specs.declared.limits.TheConstants.{MOST_PAGES, MOST_RANGES}
use Rattle.range_map.specs.Kinds.{ranges}
use Rattle.lazy_world.specs.Cells.{put_rights, put_row, states_of}
use Rattle.lazy_world.specs.Seen.{rights, rows}
use Rattle.lazy_world.specs.Sound.{HasOldTags, HasOneHome}
use Rattle.lazy_world.specs.States.{world_of}
use Rattle.lazy_world.specs.Worlds.{parts, seen}
use Rattle.lazy_world.proofs.FollowLemmas.{followed-few, followed-sound, followed-world, origin-homes, origin-tags, ranges-here, same-place, transfer-for}
use Rattle.lazy_world.proofs.world.PlacedWorld.follow.Goals as goal

pub origins-requires-clause-transfer : goal.origins-requires-clause-transfer
origins-requires-clause-transfer c =
    transfer-for c.args.transfer (parts c.args.self.now).size.contexts c.args.target c.args.of_context c.place-from.result c.place-to.result c.requires.transfer
    (λ same. same-place (parts c.args.self.now).contexts.map c.args.target c.args.of_context c.place-from.result c.place-to.result same c.place-from.ensures.found c.place-to.ensures.found) c.place-to.ensures.low

pub take-requires-clause-few : goal.take-requires-clause-few
unfolding seen parts world_of
take-requires-clause-few c =
    let w = c.args.self.now in
    let origins = c.origins.ensures in
    subst (λ (n : ℕ). n ≤ MOST_RANGES)
    (followed-few (parts w) w.sound w.placed c.args.transfer c.args.spec.now c.requires.within c.args.target c.args.of_context c.place-from.result c.place-to.result c.place-from.ensures.context c.place-to.ensures.found
    ∙ sym (λ e. ranges MOST_PAGES (states_of (origins.row e) (origins.rights e)))) c.requires.few

pub invariant_of-self : goal.invariant_of-self
unfolding seen parts world_of
invariant_of-self c =
    let w = c.args.self.now in
    let to = c.place-to.result in
    let origins = c.origins.ensures in
    record {
      placed = w.placed;
      placed_groups = w.placed_groups;
      count = c.take.ensures.count ∙ w.count;
      frames = c.take.ensures.frames ∙ w.frames;
      sound = followed-sound (parts w) w.sound w.placed c.args.transfer c.args.spec.now c.requires.within c.args.target c.args.of_context c.place-from.result to c.place-from.ensures.context c.place-to.ensures.found
          _ _ (c.take.ensures.rows ∙ ap (put_row (rows w.places) to) origins.row) (c.take.ensures.rights ∙ ap (put_rights (rights w.places) to) origins.rights)
          c.requires.ready
          (subst (HasOldTags (seen w).next) origins.row (origin-tags (seen w).next (rows w.places) to c.origins.new.origins w.sound.tags))
          c.requires.fresh
          (subst (λ row. HasOneHome (put_row (rows w.places) to row)) origins.row (origin-homes (rows w.places) to c.origins.new.origins w.sound.homes));
    }

pub returns-clause-world : goal.returns-clause-world
unfolding seen parts world_of
returns-clause-world c =
    let w = c.args.self.now in
    let to = c.place-to.result in
    let origins = c.origins.ensures in
    followed-world (parts w) w.sound w.placed c.args.transfer c.args.spec.now c.requires.within c.args.target c.args.of_context c.place-from.result to c.place-from.ensures.context c.place-to.ensures.found
    _ _ (c.take.ensures.rows ∙ ap (put_row (rows w.places) to) origins.row) (c.take.ensures.rights ∙ ap (put_rights (rights w.places) to) origins.rights)

pub returns-clause-store : goal.returns-clause-store
unfolding seen parts rows rights
returns-clause-store c =
    let here = ranges-here (parts c.args.self.now) c.args.self.now.sound c.args.target c.place-from.result c.place-from.ensures.found in
    record { frames = c.take.ensures.free; pool = c.take.ensures.pool; nodes = omega (arith, c.take.ensures.nodes_any, c.origins.ensures.nodes, here) }

pub returns-clause-steps : goal.returns-clause-steps
unfolding seen parts rows rights
returns-clause-steps c =
    let here = ranges-here (parts c.args.self.now) c.args.self.now.sound c.args.target c.place-from.result c.place-from.ensures.found in
    omega (arith, c.take.ensures.cost_any, c.origins.ensures.steps, here)
