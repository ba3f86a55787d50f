use Rattle.std.proofs.Common.{◌∙◌, ap, sym}
use Rattle.std.specs.Option.{option_copied}
use Rattle.std.proofs.lemmas.Bool.{false≢true}
use Rattle.whole_world.specs.States.{world_of}
use Rattle.whole_world.specs.Worlds.{seen}
use Rattle.whole_world.proofs.Worlds.{context-found, dead-missed, whole-found}
use Rattle.whole_world.proofs.world.WholeWorld.row.Goals as goal

pub unreachable-requires : goal.unreachable-requires
unfolding seen
unreachable-requires c = false≢true (sym (dead-missed _ _ _ _ c.args.self.now.sound c.args.of_context (sym c.get.ensures ∙ ap option_copied c.in-None.is)) ∙ c.requires)

pub returns-clause-context : goal.returns-clause-context
unfolding seen
returns-clause-context c = context-found _ _ _ _ c.args.self.now.sound c.args.of_context _ (sym c.get.ensures ∙ ap option_copied c.in-Some.is)

pub returns-clause-whole : goal.returns-clause-whole
unfolding seen world_of
returns-clause-whole c = whole-found _ _ _ _ c.args.self.now.sound c.args.of_context _ (sym c.get.ensures ∙ ap option_copied c.in-Some.is)
