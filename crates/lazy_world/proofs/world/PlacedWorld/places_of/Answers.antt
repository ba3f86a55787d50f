use Rattle.std.proofs.Common.{rules, ◌∙◌, sym}
use Rattle.lazy_world.proofs.GatherLemmas.{gathered_none, gathered_some}
use Rattle.lazy_world.proofs.world.PlacedWorld.places_of.Goals as goal
use Rattle.lazy_world.proofs.world.PlacedWorld.places_of.Goals.{in-Some, in_default}

pub loop-name-preserved : goal.loop-name-preserved
loop-name-preserved c =
    elim c.match-place.branch [
      | in-Some w ↦ record {
        found = search rules ∙ gathered_some _ c.args.names.now c.loop-name.name-index _ w.in-Some.place c.loop-name.places.items c.loop-name-test.true (sym c.place.ensures.place ∙ w.in-Some.is) c.loop-name.invariant.found;
        few = search rules;
      }
      | in_default w ↦ record {
        found = search rules ∙ gathered_none _ c.args.names.now c.loop-name.name-index _ c.loop-name.places.items c.loop-name-test.true (sym c.place.ensures.place ∙ w.in_default.is) c.loop-name.invariant.found;
        few = search rules;
      }
    ]
