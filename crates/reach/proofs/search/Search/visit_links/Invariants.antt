use Rattle.std.proofs.Common.{◌≡◌, ◌-◌, ◌≤◌}
use Rattle.lwc_types.specs.declared.key.TheConstants.{SLOTS}
use Rattle.reach.specs.Search as spec
use Rattle.reach.proofs.search.Search.visit_links.Given as goal

abbrev pub invariant-slots : goal.invariant-slots
invariant-slots g l = record {
  below : l.from ≤ SLOTS;
  found : l.self ≡ spec.with_links (g.K.Links.link_of l.links) l.place l.initial.self l.from;
  within : spec.LinksWithin (g.K.Links.link_of l.links) l.place l.from;
}

abbrev pub decreases-slots : goal.decreases-slots
decreases-slots g l = SLOTS - l.from
