use Rattle.std.proofs.Common.{◌-◌}
use Rattle.lwc_types.specs.declared.limits.TheConstants.{MOST_CONTEXTS}
use Rattle.reach.proofs.Found.{HasRoots, IsBetween, IsSearch}
use Rattle.reach.proofs.marks.mark.Given as goal

abbrev pub invariant-roots : goal.invariant-roots
invariant-roots g l = record {
  kept : IsSearch (g.K.Links.link_of l.links) l.roots l.search;
  begun : HasRoots l.roots l.i l.search;
}

abbrev pub invariant-places : goal.invariant-places
invariant-places g l = IsBetween (g.K.Links.link_of l.links) l.roots l.i l.search

abbrev pub decreases-places : goal.decreases-places
decreases-places g l = MOST_CONTEXTS - l.i
