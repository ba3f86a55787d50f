use Rattle.std.proofs.Common.{◌≡◌, rules, Some, sym, ◌∙◌}
use Rattle.range_map.specs.declared.segment.SegmentKind.TheVariants.{Own, Common}
use Rattle.lazy_world.specs.Seen.{count, rows}
use Rattle.lazy_world.specs.Worlds.{parts, seen}
use Rattle.lazy_world.proofs.FoundLemmas.{found-alone, found-common, holder-of}
use Rattle.lazy_world.proofs.world.PlacedWorld.found.Goals as goal

pub returns-in-None-clause-found : goal.returns-in-None-clause-found
returns-in-None-clause-found c k cell is =
    let w = c.args.self.now in
    found-alone (seen w) (parts w).size.contexts (count w.places) (rows w.places) k cell c.args.kind c.args.right is (λ g common. absurd (let both = sym c.in-None.is ∙ common in cc))

pub returns-in-Some-Own-clause-found : goal.returns-in-Some-Own-clause-found
returns-in-Some-Own-clause-found c k cell is =
    let w = c.args.self.now in
    let own : c.args.kind ≡ Some Own = search rules in
    found-alone (seen w) (parts w).size.contexts (count w.places) (rows w.places) k cell c.args.kind c.args.right is (λ g common. absurd (let both = sym own ∙ common in cc))

pub returns-in-Some-Common-clause-found : goal.returns-in-Some-Common-clause-found
unfolding parts
returns-in-Some-Common-clause-found c k cell is =
    let w = c.args.self.now in
    let held = c.group_place-holder.ensures in
    let common : c.args.kind ≡ Some (Common c.in-Some-Common.g) = search rules in
    found-common (seen w) w.size.contexts (count w.places) (rows w.places) k cell c.args.kind c.in-Some-Common.g c.group_place-holder.result c.args.right is common
    (holder-of (seen w) w.size.contexts (count w.places) (rows w.places) k c.in-Some-Common.g c.group_place-holder.result held.found held.inside held.behind held.missed w.sound.own)
