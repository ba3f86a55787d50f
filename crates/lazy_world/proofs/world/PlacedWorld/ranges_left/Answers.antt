use Rattle.std.proofs.Common.{◌≡◌, ◌∙◌, ap, false, subst, sym}
use Rattle.lwc_base.specs.Ranges.{ranges_of}
use Rattle.lwc_base.specs.World.{Context, context, next_group}
use Rattle.lwc_types.specs.declared.limits.TheConstants.{MOST_PAGES}
use Rattle.lwc_types.specs.declared.name.Name.{Name}
use Rattle.range_map.specs.Kinds.{ranges}
use Rattle.lwc_types.specs.declared.key.Key.{Key}
use Rattle.lazy_world.specs.Cells.{Row, rows_of, states_of}
use Rattle.lazy_world.specs.Followed.{followed}
use Rattle.lazy_world.specs.Seen.{rights, rows}
use Rattle.lazy_world.specs.States.{world_of}
use Rattle.lazy_world.specs.Transfers.{moves}
use Rattle.lazy_world.specs.Worlds.{parts, seen}
use Rattle.lazy_world.specs.declared.transfer.Transfer.TheVariants.{Mark}
use Rattle.lazy_world.proofs.CloneLemmas.{none-moves}
use Rattle.lazy_world.proofs.CopyLemmas.{marked-rights}
use Rattle.lazy_world.proofs.FollowLemmas.{followed-few}
use Rattle.lazy_world.proofs.ItemLemmas.{unmoved-same}
use Rattle.lazy_world.proofs.world.PlacedWorld.ranges_left.Goals as goal

pub returns-then-needs_group : goal.returns-then-needs_group
returns-then-needs_group c =
    c.ranges_after.ensures ∙ ap (λ (g : Name). ranges_of (followed (seen c.args.self.now) (Mark g) c.args.items.now c.args.context c.args.context) c.args.context) c.unnamed.ensures

pub returns-else-needs_group : goal.returns-else-needs_group
unfolding seen parts world_of rows rights rows_of
returns-else-needs_group c =
    let w = c.args.self.now in
    let items = c.args.items.now in
    let place = c.place.result in
    let g = next_group (seen w) 0 in
    let here : (context (seen w) c.args.context).cell ≡ rows w.places place = ap (λ (x : Context). x.cell) c.place.ensures.context in
    let idle = sym c.needs_group.ensures.value ∙ c.if-needs_group.false in
    let none : (k : Key) → moves items k (rows w.places place) ≡ false =
    λ k. subst (λ (row : Row). moves items k row ≡ false) here (none-moves (seen w) c.args.context 0 items c.requires.within c.requires.live idle k) in
    c.count.ensures.ranges
    ∙ sym (λ e. ranges MOST_PAGES (states_of (unmoved-same (seen w) g items (rows w.places place) (rows w.places place) none e) (marked-rights g items (rows w.places place) (rights w.places place) (rights w.places place) e)))
    ∙ sym (followed-few (parts w) w.sound w.placed (Mark g) items c.requires.within c.args.context c.args.context place place c.place.ensures.context c.place.ensures.found)
