use Rattle.std.proofs.Common.{arith}
use Rattle.std.specs.Prelude.{◌==◌}
use Rattle.ctx_table.proofs.Taken.{few_names}
use Rattle.ctx_table.proofs.names.Names.count_of.Goals as goal

pub overflow_cast-result : goal.overflow_cast-result
overflow_cast-result c =
    omega (arith, c.count_of.ensures, few_names _ _ c.self.invariant.indexed (λ name. name.job == c.args.job))
