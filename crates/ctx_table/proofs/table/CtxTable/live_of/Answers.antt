use Rattle.std.proofs.Common.{◌∙◌, ap, sym, arith, List, count_by}
use Rattle.std.specs.Prelude.{◌==◌}
use Rattle.ctx_table.proofs.Alike.{same_names}
use Rattle.ctx_table.proofs.Taken.{few_names, live}
use Rattle.lwc_types.specs.declared.name.Name.{Name}
use Rattle.ctx_table.proofs.table.CtxTable.live_of.Goals as goal

pub overflow_cast-result : goal.overflow_cast-result
overflow_cast-result g c =
    omega (arith, c.count_of.ensures, few_names _ _ c.self.invariant (λ name. name.job == c.args.job))

pub returns : goal.returns
returns g c =
    rw (← c.self.view_is) (c.count_of.ensures ∙ ap (λ (names : List Name). count_by (λ name. name.job == c.args.job) names)
    (sym (same_names _ _ (live _ _ c.self.invariant))))
