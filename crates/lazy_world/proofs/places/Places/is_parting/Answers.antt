use Rattle.std.proofs.Common.{Some, ◌∙◌, ap, sym}
use Rattle.cow_space.specs.Tags as places
use Rattle.lazy_world.specs.Seen.{pages}
use Rattle.lazy_world.proofs.WrittenLemmas.{parts-common, parts-none}
use Rattle.lazy_world.proofs.places.Places.is_parting.Goals as goal

pub returns-in-None : goal.returns-in-None
unfolding places.is_parting pages
returns-in-None c = parts-none _ _ (sym c.kind.ensures ∙ c.in-None.is)

pub returns-in-Some-Common : goal.returns-in-Some-Common
unfolding places.is_parting pages
returns-in-Some-Common c = parts-common _ _ _ (sym c.kind.ensures ∙ c.in-Some-Common.is ∙ ap Some c.in-Some-Common.field-0-is)
