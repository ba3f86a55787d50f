use Rattle.std.proofs.Common.{◌∙◌, arith, subst, sym}
use Rattle.std.proofs.lemmas.Bool.{false≢true}
use Rattle.lwc_base.specs.Capabilities.{is_named}
use Rattle.lwc_base.specs.Fresh.{named_groups}
use Rattle.lwc_base.specs.World.{context}
use Rattle.whole_world.specs.Rows.{context_of}
use Rattle.whole_world.specs.Sharing.{with_taken}
use Rattle.whole_world.specs.Sound.{IsWhole}
use Rattle.whole_world.specs.States.{world_of}
use Rattle.whole_world.specs.Worlds.{seen}
use Rattle.whole_world.proofs.Overlaid.{in_taken}
use Rattle.whole_world.proofs.Tables.{nothing-at}
use Rattle.whole_world.proofs.Worlds.{change_context-at, dead-missed, sound-at, still_whole, whole-at}
use Rattle.lwc_base.proofs.Facts.{stays_fresh}
use Rattle.whole_world.proofs.world.WholeWorld.take_over.Goals as goal

pub take_named-requires-clause-pages : goal.take_named-requires-clause-pages
unfolding seen world_of
take_named-requires-clause-pages c = omega (arith, c.page_count-pages.ensures, c.args.self.now.sound.few_pages)

pub take_named-requires-clause-whole : goal.take_named-requires-clause-whole
unfolding seen world_of
take_named-requires-clause-whole c =
    subst (λ pages. IsWhole pages c.index_mut.result.now.1) (sym c.page_count-pages.ensures)
    (whole-at _ _ _ _ c.args.self.now.sound c.args.context c.in-Some.i _ (sym c.position.ensures ∙ c.in-Some.is) c.index_mut.ensures.value)

pub invariant_of-self : goal.invariant_of-self
unfolding seen world_of
invariant_of-self c =
    let found = sym c.position.ensures ∙ c.in-Some.is in
    let world = c.args.self.now.sound in
    record {
      sound = sound-at _ _ _ _ world c.args.context c.in-Some.i _ found c.index_mut.ensures.value c.take_named.new.self (with_taken (is_named c.args.spec.now) (context_of c.args.row))
          c.take_named.ensures.context
          (still_whole _ _ _ (whole-at _ _ _ _ world c.args.context c.in-Some.i _ found c.index_mut.ensures.value) c.take_named.ensures.size)
          (stays_fresh.context_changed _ c.args.context (with_taken (is_named c.args.spec.now) (context_of c.args.row))
          (λ live old. in_taken (named_groups (seen c.args.self.now).next) c.args.context.job (is_named c.args.spec.now) (context_of c.args.row) (context (seen c.args.self.now) c.args.context) c.requires.old_groups old) world.fresh);
    }

pub unreachable-requires : goal.unreachable-requires
unfolding seen
unreachable-requires c =
    false≢true (sym (dead-missed _ _ _ _ c.args.self.now.sound c.args.context (nothing-at c.args.context c.args.self.now.contexts.rows.items (sym c.position.ensures ∙ c.in-None.is))) ∙ c.requires.live)

pub returns : goal.returns
unfolding seen
returns c =
    change_context-at _ _ _ _ c.args.self.now.sound c.args.context c.in-Some.i _ (sym c.position.ensures ∙ c.in-Some.is) c.index_mut.ensures.value c.take_named.new.self _ c.take_named.ensures.context
