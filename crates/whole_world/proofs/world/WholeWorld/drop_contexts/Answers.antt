use Rattle.std.proofs.Common.{ℕ, ◌<◌, ◌∙◌, List, All, ap, subst, sym}
use Rattle.lwc_base.specs.Life.{is_reached}
use Rattle.lwc_types.specs.declared.limits.TheConstants.{MOST_CONTEXTS}
use Rattle.lwc_types.specs.declared.name.Name.{Name}
use Rattle.whole_world.specs.declared.context_row.ContextRow.{ContextRow}
use Rattle.whole_world.specs.Sound.{IsSound}
use Rattle.whole_world.specs.States.{world_of}
use Rattle.whole_world.specs.Worlds.{seen}
use Rattle.whole_world.proofs.Keeping.{kept-world, sound-kept}
use Rattle.whole_world.proofs.Reached.{kept-reached, places_within}
use Rattle.whole_world.proofs.world.WholeWorld.drop_contexts.Goals as goal

pub mark-requires : goal.mark-requires
mark-requires c =
    subst (λ (places : List ℕ). All (λ place. place < MOST_CONTEXTS) places) (sym (c.as_slice.ensures.value ∙ c.places_of-places.ensures))
    (places_within c.args.self.now c.args.roots.now c.args.roots.now)

pub invariant_of-self : goal.invariant_of-self
invariant_of-self c =
    let w = c.args.self.now in
    record {
      sound = subst (λ (rows : List (Name × ContextRow)). IsSound w.size rows w.groups.rows.items w.counts.items)
          (sym (c.keep.ensures ∙ kept-reached w c.args.roots.now _ _ _ (c.as_slice.ensures.value ∙ c.places_of-places.ensures) c.as_slice-2.ensures.same c.as_slice-2.ensures.all c.mark.ensures))
          (sound-kept _ _ _ _ w.sound (is_reached (seen w) c.args.roots.now));
    }

pub returns : goal.returns
unfolding seen
returns c =
    let w = c.args.self.now in
    ap (λ (rows : List (Name × ContextRow)). world_of w.size rows w.groups.rows.items w.counts.items)
    (c.keep.ensures ∙ kept-reached w c.args.roots.now _ _ _ (c.as_slice.ensures.value ∙ c.places_of-places.ensures) c.as_slice-2.ensures.same c.as_slice-2.ensures.all c.mark.ensures)
    ∙ kept-world _ _ _ _ w.sound (is_reached (seen w) c.args.roots.now)
