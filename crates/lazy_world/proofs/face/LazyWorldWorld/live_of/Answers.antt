use Rattle.std.proofs.Common.{◌∙◌, ap, sym, eqb, List}
use Rattle.std.specs.Prelude.{count_by}
use Rattle.lwc_base.specs.World.{live_of}
use Rattle.lwc_types.specs.declared.name.Name.{Name}
use Rattle.lazy_world.specs.Worlds.{parts, seen}
use Rattle.lazy_world.proofs.WorldLemmas.{names-contexts}
use Rattle.lazy_world.proofs.face.LazyWorldWorld.live_of.Goals as goal

pub returns : goal.returns
unfolding seen parts live_of
returns c = record { value = c.count_of.ensures ∙ ap (λ (names : List Name). count_by (λ name. eqb name.job c.args.job) names) (sym (names-contexts (parts c.args.self.now.world))) }
