use Rattle.std.proofs.Common.{◌∙◌, ap, sym, subst}
use Rattle.std.proofs.lemmas.Bool.{false≢true}
use Rattle.lwc_base.specs.Sharing.{with_shared, moved_values}
use Rattle.whole_world.specs.Sound.{IsWhole}
use Rattle.whole_world.specs.States.{world_of}
use Rattle.whole_world.specs.Worlds.{seen}
use Rattle.whole_world.proofs.ShareSteps.{fresh-with_shared}
use Rattle.whole_world.proofs.Tables.{nothing-at}
use Rattle.whole_world.proofs.Worlds.{change_context-at, context-at, dead-missed, sound-at, whole-at}
use Rattle.whole_world.proofs.world.WholeWorld.move_out.Goals as goal

pub move_values-requires-clause-whole : goal.move_values-requires-clause-whole
unfolding seen world_of
move_values-requires-clause-whole c =
    subst (λ n. IsWhole n c.index_mut.result.now.1) (sym c.page_count-pages.ensures)
    (whole-at _ _ _ _ c.args.self.now.sound c.args.of_context c.in-Some.i _ (sym c.position.ensures ∙ c.in-Some.is) c.index_mut.ensures.value)

pub unreachable-requires : goal.unreachable-requires
unfolding seen
unreachable-requires c =
    false≢true (sym (dead-missed _ _ _ _ c.args.self.now.sound c.args.of_context (nothing-at c.args.of_context c.args.self.now.contexts.rows.items (sym c.position.ensures ∙ c.in-None.is))) ∙ c.requires.live)

pub invariant_of-self : goal.invariant_of-self
unfolding seen world_of
invariant_of-self c = record {
  sound = sound-at _ _ _ _ c.args.self.now.sound c.args.of_context c.in-Some.i _ (sym c.position.ensures ∙ c.in-Some.is) c.index_mut.ensures.value c.move_values.new.self
      (with_shared c.args.name c.args.spec.now) c.move_values.ensures.context (subst (λ n. IsWhole n c.move_values.new.self) c.page_count-pages.ensures c.move_values.ensures.whole)
      (fresh-with_shared _ c.args.of_context c.args.name _ c.requires.counted c.args.self.now.sound.fresh);
}

pub returns-clause-world : goal.returns-clause-world
unfolding seen
returns-clause-world c =
    change_context-at _ _ _ _ c.args.self.now.sound c.args.of_context c.in-Some.i _ (sym c.position.ensures ∙ c.in-Some.is) c.index_mut.ensures.value c.move_values.new.self
    (with_shared c.args.name c.args.spec.now) c.move_values.ensures.context

pub returns-clause-group : goal.returns-clause-group
unfolding seen
returns-clause-group c =
    c.move_values.ensures.group
    ∙ ap (moved_values c.args.spec.now) (sym (context-at _ _ _ _ c.args.self.now.sound c.args.of_context c.in-Some.i _ (sym c.position.ensures ∙ c.in-Some.is) c.index_mut.ensures.value))
