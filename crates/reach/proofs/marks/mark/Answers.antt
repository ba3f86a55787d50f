use Rattle.std.proofs.Common.{arith}
use Rattle.reach.proofs.Found.{begun, between-first, between-next, marks_reached, no_root, root-next, search-root}
use Rattle.reach.proofs.marks.mark.Goals as goal

pub roots-init : goal.roots-init
roots-init g c = record { kept = begun _ _ _ c.new-search.ensures; begun = no_root _ _ }

pub roots-preserved : goal.roots-preserved
roots-preserved g c = record {
  kept = search-root _ _ _ _ _ c.visit.ensures c.roots-test.true c.requires c.roots.invariant.kept;
  begun = root-next _ _ _ _ _ c.visit.ensures c.roots-test.true c.requires c.roots.invariant.kept c.roots.invariant.begun;
}

pub places-init : goal.places-init
places-init g c = between-first _ _ _ _ c.roots-test.false c.roots.invariant.kept c.roots.invariant.begun

pub expand-requires : goal.expand-requires
expand-requires g c less = c.places.invariant.kept.within _ less

pub places-preserved : goal.places-preserved
places-preserved g c = between-next _ _ _ _ _ c.expand.ensures.found c.expand.ensures.within c.places.invariant

pub returns : goal.returns
returns g c = marks_reached _ _ _ _ (omega (arith, c.places-test.false, c.len.ensures)) c.places.invariant _ c.into_marks.ensures
