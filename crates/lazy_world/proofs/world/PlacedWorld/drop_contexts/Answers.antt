use Rattle.std.proofs.Common.{ℕ, ◌<◌, ◌∙◌, List, ap, arith, subst, sym}
use Rattle.std.specs.Prelude.{All}
use Rattle.std.specs.FinMap as fm
use Rattle.lwc_base.specs.Life.{is_reached}
use Rattle.lwc_types.specs.declared.limits.TheConstants.{MOST_CONTEXTS}
use Rattle.reach.specs.Reach.{is_marked}
use Rattle.lazy_world.specs.Reaping.{keeps}
use Rattle.lazy_world.specs.States.{context_at}
use Rattle.lazy_world.specs.Worlds.{parts, seen}
use Rattle.lazy_world.proofs.LeftLemmas.{keeps-all, left_by-test}
use Rattle.lazy_world.proofs.ReachLemmas.{marked-reached, places_within}
use Rattle.lazy_world.proofs.SmallLemmas.{place_of_found}
use Rattle.lazy_world.proofs.WorldLemmas.{get-context}
use Rattle.lazy_world.proofs.world.PlacedWorld.drop_contexts.Goals as goal

pub mark-requires : goal.mark-requires
mark-requires c =
    let w = c.args.self.now in
    subst (λ (places : List ℕ). All (λ place. place < MOST_CONTEXTS) places) (sym (c.as_slice.ensures.value ∙ c.places_of-places.ensures))
    (places_within w c.args.self.now.placed c.args.roots.now
    (λ d i at. let within = c.args.self.now.placed.within d i at in omega (arith, within, w.sound.sizes.contexts, w.sound.sizes.size.contexts.1)) c.args.roots.now)

pub keep_contexts-requires : goal.keep_contexts-requires
unfolding parts
keep_contexts-requires c = omega (arith, c.as_slice-2.ensures.all, c.args.self.now.sound.sizes.size.contexts.1)

pub returns : goal.returns
unfolding seen parts
returns c =
    let w = c.args.self.now in
    let roots = c.args.roots.now in
    let marks = c.as_slice-2.result.now in
    let placed = c.args.self.now.placed in
    c.keep_contexts.ensures
    ∙ (λ e. record (seen w) {
      contexts = left_by-test w.contexts.map (keeps marks w.size.contexts) (is_reached (seen w) roots) (seen w).contexts
          (λ d x is.
          let place = place_of_found (fm.get w.contexts.map d) (context_at (parts w)) x (sym (get-context (parts w) d) ∙ is) in
          let within = placed.within d place.0 place.1 in
          ap (keeps marks w.size.contexts) place.1
          ∙ keeps-all marks w.size.contexts place.0 (omega (arith, within, w.sound.sizes.contexts))
          ∙ ap (λ m. is_marked m place.0) c.as_slice-2.ensures.same
          ∙ marked-reached w placed roots _ _ (c.as_slice.ensures.value ∙ c.places_of-places.ensures) c.mark.ensures d place.0 place.1
          (omega (arith, within, w.sound.sizes.contexts, w.sound.sizes.size.contexts.1))) e;
    })
