use Rattle.std.proofs.Common.{arith}
use Rattle.fd_table.proofs.ObjectLemmas.{less-skip, less-may, less-drop}
use Rattle.fd_table.proofs.objects.Objects.drop_entry.Goals as goal

pub drop_hold-requires : goal.drop_hold-requires
drop_hold-requires c = less-may _ c.args.entry c.if-entry-gt0.true c.requires

pub returns-then-entry-gt0-clause-pool : goal.returns-then-entry-gt0-clause-pool
returns-then-entry-gt0-clause-pool c =
    less-drop c.args.self.now.pool _ c.args.entry c.if-entry-gt0.true (less-may _ c.args.entry c.if-entry-gt0.true c.requires) c.drop_hold.ensures.pool

pub returns-else-entry-gt0-clause-pool : goal.returns-else-entry-gt0-clause-pool
returns-else-entry-gt0-clause-pool c = less-skip c.args.self.now.pool c.args.entry (omega arith)
