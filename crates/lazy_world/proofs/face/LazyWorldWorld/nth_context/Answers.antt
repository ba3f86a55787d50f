use Rattle.std.proofs.Common.{◌∙◌, ap, sym}
use Rattle.std.specs.Prelude.{slice_get}
use Rattle.lazy_world.specs.Worlds.{parts, seen}
use Rattle.lazy_world.proofs.WorldLemmas.{names-contexts}
use Rattle.lazy_world.proofs.face.LazyWorldWorld.nth_context.Goals as goal

pub returns : goal.returns
unfolding seen parts
returns c = c.nth.ensures ∙ ap (λ names. slice_get names c.args.index) (sym (names-contexts (parts c.args.self.now.world)))
