use Rattle.std.proofs.Common.{◌∙◌, ap, sym}
use Rattle.std.specs.Prelude.{is_some}
use Rattle.lazy_world.specs.Worlds.{parts, seen}
use Rattle.lazy_world.proofs.WorldLemmas.{live-there}
use Rattle.lazy_world.proofs.world.PlacedWorld.is_live.Goals as goal

pub returns : goal.returns
unfolding seen parts
returns c = c.is_some.ensures ∙ ap is_some c.place.ensures.place ∙ sym (live-there (parts c.args.self.now) c.args.context)
