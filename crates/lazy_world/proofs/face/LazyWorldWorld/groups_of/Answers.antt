use Rattle.std.proofs.Common.{◌∙◌, ap, sym, eqb, List}
use Rattle.std.specs.Prelude.{count_by}
use Rattle.lwc_base.specs.World.{groups_of}
use Rattle.lwc_types.specs.declared.name.Name.{Name}
use Rattle.lazy_world.specs.Worlds.{parts, seen}
use Rattle.lazy_world.proofs.WorldLemmas.{names-groups}
use Rattle.lazy_world.proofs.face.LazyWorldWorld.groups_of.Goals as goal

pub returns : goal.returns
unfolding seen parts groups_of
returns c = record { value = c.count_of.ensures ∙ ap (λ (names : List Name). count_by (λ name. eqb name.job c.args.job) names) (sym (names-groups (parts c.args.self.now.world))) }
