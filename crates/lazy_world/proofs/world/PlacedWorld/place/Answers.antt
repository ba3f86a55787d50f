use Rattle.std.proofs.Common.{◌∙◌, ap, arith, sym}
use Rattle.std.specs.Prelude.{is_some}
use Rattle.std.proofs.lemmas.Bool.{false≢true}
use Rattle.lazy_world.specs.Worlds.{parts, seen}
use Rattle.lazy_world.proofs.WorldLemmas.{context-found, live-there}
use Rattle.lazy_world.proofs.world.PlacedWorld.place.Goals as goal

pub unreachable-requires : goal.unreachable-requires
unfolding seen parts
unreachable-requires c = false≢true (sym (live-there (parts c.args.self.now) c.args.of_context ∙ ap is_some (sym c.place.ensures.place ∙ c.in-None.is)) ∙ c.requires)

pub returns-clause-found : goal.returns-clause-found
unfolding parts
returns-clause-found c = sym c.place.ensures.place ∙ c.in-Some.is

pub returns-clause-context : goal.returns-clause-context
unfolding seen parts
returns-clause-context c = context-found (parts c.args.self.now) c.args.of_context c.in-Some.i (sym c.place.ensures.place ∙ c.in-Some.is)

pub returns-clause-low : goal.returns-clause-low
unfolding parts
returns-clause-low c = omega (arith, c.in-Some.ensures.within, c.args.self.now.sound.sizes.contexts)

pub returns-clause-inside : goal.returns-clause-inside
returns-clause-inside c = omega (arith, c.in-Some.ensures.within, c.args.self.now.sound.sizes.contexts, c.args.self.now.count)
