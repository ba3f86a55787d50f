use Rattle.std.proofs.Common.{◌∙◌, ◌+◌, ap, arith, sym}
use Rattle.std.specs.Option.{option_map}
use Rattle.lazy_world.specs.Worlds.{parts, seen}
use Rattle.lazy_world.proofs.WorldLemmas.{group-found, group-missed}
use Rattle.lazy_world.proofs.world.PlacedWorld.group_place.Goals as goal

pub returns-in-Some-clause-found : goal.returns-in-Some-clause-found
unfolding seen parts
returns-in-Some-clause-found c = group-found (parts c.args.self.now) c.args.group_name c.in-Some.j (sym c.place.ensures.place ∙ c.in-Some.is)

pub returns-in-None-clause-missed : goal.returns-in-None-clause-missed
unfolding seen parts
returns-in-None-clause-missed c = group-missed (parts c.args.self.now) c.args.group_name (sym c.place.ensures.place ∙ c.in-None.is)

pub returns-in-Some-clause-behind : goal.returns-in-Some-clause-behind
unfolding parts
returns-in-Some-clause-behind c = omega arith

pub returns-in-Some-clause-place : goal.returns-in-Some-clause-place
unfolding parts
returns-in-Some-clause-place c =
    sym (ap (option_map (λ j. c.args.self.now.size.contexts + j)) (sym c.place.ensures.place ∙ c.in-Some.is))

pub returns-in-None-clause-place : goal.returns-in-None-clause-place
unfolding parts
returns-in-None-clause-place c =
    sym (ap (option_map (λ j. c.args.self.now.size.contexts + j)) (sym c.place.ensures.place ∙ c.in-None.is))
