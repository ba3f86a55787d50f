use Rattle.std.proofs.Common.{◌∙◌, ◌+◌, ap, arith, subst, sym}
use Rattle.lwc_types.specs.declared.counters.Counters.{Counters}
use Rattle.lwc_base.specs.Fresh.{Rises}
use Rattle.whole_world.proofs.Stores.{count_on_as}
use Rattle.whole_world.specs.Worlds.{seen}
use Rattle.whole_world.proofs.world.WholeWorld.count_tags.Goals as goal

pub set_counts-requires-clause-rises : goal.set_counts-requires-clause-rises
set_counts-requires-clause-rises c =
    subst (λ n. Rises n (record c.counts_of-counts.result { tags = c.counts_of-counts.result.tags + c.args.more })) (sym c.counts_of-counts.ensures)
    (record { contexts = omega arith; groups = omega arith; tags = omega arith })

pub returns : goal.returns
returns c =
    c.set_counts.ensures.world
    ∙ count_on_as (seen c.args.self.now) c.args.job (λ (n : Counters). record n { tags = n.tags + c.args.more }) _ (ap (λ (n : Counters). record n { tags = n.tags + c.args.more }) c.counts_of-counts.ensures)
