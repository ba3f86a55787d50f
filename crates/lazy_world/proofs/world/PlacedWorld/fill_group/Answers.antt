use Rattle.std.proofs.Common.{◌≡◌, ◌+◌, ◌≤◌, ◌∙◌, ℕ, ap, arith, refl, sym, subst}
use Rattle.lwc_base.specs.World.{Context}
use Rattle.lwc_types.specs.declared.limits.TheConstants.{MOST_PAGES, MOST_RANGES}
use Rattle.range_map.specs.Kinds.{ranges}
use Rattle.lazy_world.specs.Cells.{no_row, put_rights, put_row, states_of}
use Rattle.cow_space.specs.Cells.{all_write}
use Rattle.lwc_types.specs.declared.right.Right.{Right}
use Rattle.lazy_world.specs.Transfers.{transferred_rights, transferred_row}
use Rattle.lazy_world.specs.Seen.{rights, rows}
use Rattle.lazy_world.specs.declared.world.PlacedWorld.{PlacedWorld}
use Rattle.lazy_world.specs.Sound.{HasOldTags, HasOneHome, IsSound}
use Rattle.lazy_world.specs.States.{world_of}
use Rattle.lazy_world.specs.Worlds.{parts, seen}
use Rattle.lazy_world.specs.declared.transfer.Transfer.TheVariants.{Move}
use Rattle.lazy_world.proofs.FollowLemmas.{origin-homes, origin-tags, ranges-here}
use Rattle.lazy_world.proofs.GroupLemmas.{filled-sound, filled-world}
use Rattle.lazy_world.proofs.PastLemmas.{transferred-within}
use Rattle.lazy_world.proofs.PlaceLemmas.{pass}
use Rattle.lazy_world.specs.Costs.{pieces}
use Rattle.lazy_world.proofs.CostLemmas.{fill-less}
use Rattle.lazy_world.proofs.WorldLemmas.{change_group-missed, no_pages-new}
use Rattle.lazy_world.proofs.world.PlacedWorld.fill_group.Goals as goal

pub origins-requires-clause-transfer : goal.origins-requires-clause-transfer
unfolding parts
origins-requires-clause-transfer c = λ same. absurd (let low = c.place-from.ensures.low in omega (arith, low, same))

pub origins-requires-clause-to : goal.origins-requires-clause-to
origins-requires-clause-to c = omega (arith, c.in-Some.ensures.within, c.args.self.now.sound.sizes.groups, c.args.self.now.count)

pub take-requires-clause-place : goal.take-requires-clause-place
take-requires-clause-place c = omega (arith, c.in-Some.ensures.within, c.args.self.now.sound.sizes.groups, c.args.self.now.count)

pub take-requires-clause-few : goal.take-requires-clause-few
unfolding seen parts
take-requires-clause-few c =
    let w = c.args.self.now in
    let origins = c.origins.ensures in
    subst (λ (n : ℕ). n ≤ MOST_RANGES)
    (ap (λ (x : Context). ranges MOST_PAGES (states_of (transferred_row (seen w) Move c.args.spec.now x.cell no_row) (transferred_rights Move c.args.spec.now x.cell x.right all_write))) c.place-from.ensures.context
    ∙ sym (λ e. ranges MOST_PAGES (states_of (origins.row e) (origins.rights e)))) c.requires.few

others_kept : (w : PlacedWorld) (to : ℕ) (right : ℕ → Right) (after : ℕ → ℕ → Right) → after ≡ put_rights (rights w.places) to right → (q : ℕ) → (q ≡ to → ⊥) → after q ≡ rights w.places q
others_kept w to right after is q other = (λ e. is e q) ∙ pass to q right (rights w.places q) other

pub invariant_of-self : goal.invariant_of-self
unfolding seen parts world_of
invariant_of-self c =
    let w = c.args.self.now in
    let s = parts w in
    let to = w.size.contexts + c.in-Some.j in
    record {
      placed = w.placed;
      placed_groups = w.placed_groups;
      count = c.take.ensures.count ∙ w.count;
      frames = c.take.ensures.frames ∙ w.frames;
      sound = subst (λ rows. IsSound (record s { rows = rows; rights = rights c.take.new.self })) (sym (c.take.ensures.rows ∙ ap (put_row (rows w.places) to) c.origins.ensures.row))
          (filled-sound s w.sound w.placed w.placed_groups c.args.group_name c.in-Some.j (sym c.place.ensures.place ∙ c.in-Some.is) c.args.spec.now c.args.of_context c.place-from.result c.place-from.ensures.context
          (rights c.take.new.self) (others_kept w to _ _ c.take.ensures.rights) c.requires.empty
          (transferred-within (seen w) s.size.pages c.args.spec.now c.requires.within Move (rows w.places c.place-from.result) (rows w.places to) (w.sound.past c.place-from.result) (w.sound.past to))
          (subst (HasOldTags (seen w).next) c.origins.ensures.row (origin-tags (seen w).next (rows w.places) to c.origins.new.origins w.sound.tags))
          (subst (λ row. HasOneHome (put_row (rows w.places) to row)) c.origins.ensures.row (origin-homes (rows w.places) to c.origins.new.origins w.sound.homes)));
    }

pub returns-in-Some-clause-world : goal.returns-in-Some-clause-world
unfolding seen parts
returns-in-Some-clause-world c =
    let w = c.args.self.now in
    let s = parts w in
    let to = w.size.contexts + c.in-Some.j in
    ap (λ rows. world_of (record s { rows = rows; rights = rights c.take.new.self })) (c.take.ensures.rows ∙ ap (put_row (rows w.places) to) c.origins.ensures.row)
    ∙ filled-world s w.sound w.placed w.placed_groups c.args.group_name c.in-Some.j (sym c.place.ensures.place ∙ c.in-Some.is) c.args.spec.now c.args.of_context c.place-from.result c.place-from.ensures.context
    (rights c.take.new.self) (others_kept w to _ _ c.take.ensures.rights)

pub returns-in-None-clause-world : goal.returns-in-None-clause-world
unfolding seen parts
returns-in-None-clause-world c = change_group-missed (parts c.args.self.now) c.args.group_name _ (sym c.place.ensures.place ∙ c.in-None.is)

pub returns-in-Some-clause-store : goal.returns-in-Some-clause-store
unfolding seen parts rows rights
returns-in-Some-clause-store c =
    let w = c.args.self.now in
    let s = parts w in
    let here = ranges-here s w.sound c.args.of_context c.place-from.result c.place-from.ensures.found in
    let less = fill-less (rows w.places) (rights w.places) c.origins.new.origins.pages (pieces (seen w) c.args.of_context c.args.spec.now) (omega (arith, c.origins.ensures.steps, here)) in
    let empty = no_pages-new s w.sound.own c.args.group_name c.in-Some.j (sym c.place.ensures.place ∙ c.in-Some.is) c.requires.empty in
    record { frames = c.take.ensures.free; pool = c.take.ensures.pool; nodes = omega (arith, c.take.ensures.nodes empty, less.0) }

pub returns-in-Some-clause-steps : goal.returns-in-Some-clause-steps
unfolding seen parts rows rights
returns-in-Some-clause-steps c =
    let w = c.args.self.now in
    let s = parts w in
    let here = ranges-here s w.sound c.args.of_context c.place-from.result c.place-from.ensures.found in
    let less = fill-less (rows w.places) (rights w.places) c.origins.new.origins.pages (pieces (seen w) c.args.of_context c.args.spec.now) (omega (arith, c.origins.ensures.steps, here)) in
    let empty = no_pages-new s w.sound.own c.args.group_name c.in-Some.j (sym c.place.ensures.place ∙ c.in-Some.is) c.requires.empty in
    omega (arith, c.take.ensures.cost empty, less.1)

pub returns-in-None-clause-store : goal.returns-in-None-clause-store
returns-in-None-clause-store c = record { frames = omega arith; pool = refl; nodes = omega arith }
