use Rattle.std.proofs.Common.{◌∙◌, ap, sym}
use Rattle.std.specs.Prelude.{slice_get}
use Rattle.whole_world.specs.Worlds.{seen}
use Rattle.whole_world.proofs.Worlds.{names-contexts}
use Rattle.whole_world.proofs.world.WholeWorldWorld.nth_context.Goals as goal

pub returns : goal.returns
unfolding seen
returns c = c.name_at.ensures ∙ ap (λ names. slice_get names c.args.index) (sym (names-contexts _ _ _ _ c.args.self.now.sound))
